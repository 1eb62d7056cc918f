-- What a client that has kept nothing knows, and what it assembles.
use Rattle.std.proofs.Common.{◌≡◌, ◌⊎◌, List, ℕ, [], Some, None, IfSome, inl, inr, refl, sym, ap, subst, ◌∙◌}
use Rattle.std.specs.List.{flat_map}
use Rattle.warg_log.specs.Rules.{Accepts}
use Rattle.warg_api.specs.Link.{Asked, Exchanges}
use Rattle.warg_hint.specs.declared.decide.AlwaysDecide.{AlwaysDecide}
use Rattle.warg_plan.specs.Walk.{Entry, nothing_known}
use Rattle.warg_plan.specs.declared.plan.Plan.{Plan}
use Rattle.warg_store.specs.Contents.{Contents, SameContents}
use Rattle.warg_store.specs.Entry.{Absent, Whole}
use Rattle.warg_store.specs.Held.{Held, SameHeld}
use Rattle.warg_store.specs.Held as held
use Rattle.warg_assemble.specs.Parts.{exchanges_in}
use Rattle.warg_assemble.specs.Session.{IsSession, IsPlanOf}
use Rattle.warg_client.specs.declared.client.Assembly.{Assembly}
use Rattle.warg_client.specs.Stored.{CanBeRead, log_in, value_in, IsOwn}
use Rattle.warg_client.specs.Seen.{Seen, IsKnown, ReadsStores}
use Rattle.warg_client.specs.Undisturbed.{IsUnreplied}
use Rattle.warg_compose.specs.Linked.{IsPlanLinked}
use Rattle.warg_compose.specs.Read.{IsComponent}
use Rattle.warg_client.specs.ClientError.{ClientError}
use Rattle.warg_client.specs.ClientError.TheVariants as error
use Rattle.warg_client.specs.Complete.{IsValidCall}
use Rattle.warg_client.specs.Assembled.{LeavesWhatIsAllowed, wanted, IsAssembleFault, IsPlanOfText}
use Rattle.warg_replay.specs.Anew.{HaveNotFailed, IsAnewFault, IsAnewOver, IsAssembledAnew, IsRefusedAnew, nothing, says}

absent_whole : {X P : Type 0} (x : X) → Absent ≡ Whole x → P
absent_whole x e = cc

-- by a store that holds nothing no log is known, and it is its client's own
own_nothing : (accepts : Accepts) (now : Held) → SameHeld now held.nothing → IsOwn accepts now
own_nothing accepts now same = record {
  operators = λ r info e. absent_whole info (sym (same.operators r) ∙ e);
  packages = λ p kept e. absent_whole kept (sym (same.packages p) ∙ e);
}

-- by stores that hold nothing, nothing is known
pub knows_nothing : {T D : Type 0} (s : Seen T D) (now : Held) (contents : Contents) → s.registries ≡ Some now → SameHeld now held.nothing → s.contents ≡ Some contents → SameContents contents (λ _. None) → s.names ≡ Some Absent → s.updated ≡ [] → IsKnown s nothing
knows_nothing s now contents registries empty stored none names updated = record {
  stores = record {
    registries = record { held = now; tells = registries; operator = λ r. ap log_in (empty.operators r); checkpoint = λ r. ap value_in (empty.checkpoints r) };
    own = record { held = now; tells = registries; own = own_nothing s.accepts now empty };
    namespaces = record { held = Absent; tells = names; mapped = λ namespace. refl };
  };
  contents = record { held = contents; tells = stored; contents = none };
  updated = λ name. rw updated refl;
}

-- stores that hold nothing can be read
pub reads_nothing : {T D : Type 0} (s : Seen T D) (now : Held) → s.registries ≡ Some now → SameHeld now held.nothing → s.names ≡ Some Absent → ReadsStores s
reads_nothing s now registries empty names = record {
  registries = record {
    held = now;
    tells = registries;
    operators = λ r. subst CanBeRead (sym (empty.operators r)) (record {});
    checkpoints = λ r. subst CanBeRead (sym (empty.checkpoints r)) (record {});
  };
  names = subst (λ o. IfSome o CanBeRead) (sym names) (record {});
}

module _ {T : Type 0} (Steps : T → Asked → T → Type 0) (accepts : Accepts) (told : T) (text : List ℕ) (old new : Seen T AlwaysDecide) (is : IsAnewOver accepts told old) where
  -- what such a client assembles
  pub anew : (lock bytes : List ℕ) (left : List (List ℕ)) (es : List Entry) → IsPlanOfText Steps old new text es → IsPlanLinked es left lock bytes → LeavesWhatIsAllowed text es
      → IsAssembledAnew Steps accepts told text es left lock bytes
  anew lock bytes left es found linked allowed =
      let planned = found.planned nothing is.knows in
      let xs = flat_map exchanges_in planned.parts in
      record {
        settings = found.settings;
        reads = found.reads;
        asks = old.asker;
        home = is.home;
        parts = planned.parts;
        session = subst (λ a. IsSession a old.asker IsComponent (wanted found.settings) nothing nothing_known planned.parts) is.accepts_so planned.session;
        once = planned.once;
        replied = (new.transcript.link, subst (λ l. Exchanges Steps l xs new.transcript.link) is.link planned.kept.passed);
        plan = subst (λ a. IsPlanOf a old.asker IsComponent nothing xs (wanted found.settings) es) is.accepts_so planned.plan;
        digests = planned.digests;
        linked = linked;
        allowed = allowed found.settings found.reads;
      }

  -- why such a client assembles nothing
  pub refused : (e result : ClientError) → IsAssembleFault Steps old new says e text
      → ((valid : IsValidCall Steps old new text) → (e ≡ error.Memory) ⊎ ((e ≡ error.LinkFault) × IsUnreplied valid.parts old new Steps))
      → (result ≡ error.Memory) ⊎ ((result ≡ e) × HaveNotFailed new.faults) → IsAnewFault Steps accepts told result text
  refused e result cause complete (inl memory) = inl memory
  refused e result cause complete (inr same) = inr (subst (λ r. IsRefusedAnew Steps accepts told r text) (sym same.0) (record {
    begun = old;
    anew = is;
    ended = new;
    steady = same.1;
    cause = cause;
    complete = complete;
  }))

-- the plan is one
pub same_plan : (p q : Plan) → Some p ≡ Some q → p ≡ q
same_plan p q e = cc

pub same_assembly : (a b : Assembly) → Some a ≡ Some b → a ≡ b
same_assembly a b e = cc
