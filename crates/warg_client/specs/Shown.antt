-- What a client shows.
use Rattle.std.specs.Prelude.{ℕ, List, Option, option_map}
use Rattle.warg_api.specs.declared.client.Client.{Client as Asking}
use Rattle.warg_plan.specs.declared.plan.Plan.{Plan}
use Rattle.warg_learn.specs.Recording.{Transcript, transcript}
use Rattle.warg_learn.specs.Seen.{Seen, Telling, seen}
use Rattle.warg_client.specs.declared.client.Assembly.{Assembly}
use Rattle.warg_client.specs.declared.client.Client.{Client}
use Rattle.warg_client.specs.declared.settings.Settings.{Settings}

module _ {L R C N V D : Type 0} where
  -- as whom it asks registries
  abbrev pub asking : Client L R C N V D → Asking
  asking client = client.learner.client

  -- what it was asked over its link, by what that tells
  abbrev pub said_by : {T : Type 0} → (L → T) → Client L R C N V D → Transcript T
  said_by told client = transcript told client.learner.link

  -- its stores: of registries, of contents and of namespaces
  abbrev pub registry_of : Client L R C N V D → R
  registry_of client = client.learner.registries

  abbrev pub content_of : Client L R C N V D → C
  content_of client = client.learner.contents

  abbrev pub names_of : Client L R C N V D → N
  names_of client = client.learner.namespaces

  -- by which signatures it goes, and who decides for it
  abbrev pub verifier_of : Client L R C N V D → V
  verifier_of client = client.learner.verifier

  abbrev pub decider_of : Client L R C N V D → D
  decider_of client = client.learner.decide

  abbrev pub settings_of : Client L R C N V D → Settings
  settings_of client = client.settings

  -- what it assembled last: the plan, and its lock
  abbrev pub assembly_of : Client L R C N V D → Option Assembly
  assembly_of client = client.last

  abbrev pub plan_of : Client L R C N V D → Option Plan
  plan_of client = option_map (λ (a : Assembly). a.plan) client.last

  -- the bytes of the lock, and the names of the imports that it leaves open
  abbrev pub lock_of : Client L R C N V D → Option (List ℕ)
  lock_of client = option_map (λ (a : Assembly). a.lock.bytes.items) client.last

  abbrev pub left_of : Client L R C N V D → Option (List (List ℕ))
  left_of client = option_map (λ (a : Assembly). a.lock.left.items) client.last

  -- all that is seen of it, by what its parts tell
  abbrev pub seen_by : {T : Type 0} → Telling L R C N V T → Client L R C N V D → Seen T D
  seen_by tell client = seen tell client.learner
