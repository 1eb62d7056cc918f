-- Why a file is not read, since an earlier moment; and the stop of an error.
use Rattle.std.proofs.Common.{◌≡◌, ◌≤◌, inl, inr, ap, subst, ℕ, Bool, true, false, List, Some, None, IfSome}
use Rattle.std.proofs.lemmas.Bool.{false≢true}
use Rattle.warg_base.specs.Files.{file_at}
use Rattle.warg_replay.specs.ClientError.{ClientError}
use Rattle.warg_replay.specs.ClientError.TheVariants as error
use Rattle.warg_exchange.specs.declared.exchange.Reply.{Reply}
use Rattle.warg_replay.specs.Replay.{IsReplayFault, IsReplayable, accepts_listed}
use Rattle.warg_program.specs.World.{SeenFiles, HasFile}
use Rattle.warg_program.specs.Assembly.{Listed, HasChecked, HasOther, HasReplies, IsReplayCause, IsSourceCause, refusal_of}
use Rattle.warg_program.specs.declared.stop.Form.{Form}
use Rattle.warg_program.specs.declared.stop.Stop.{Stop}
use Rattle.warg_program.specs.declared.stop.Stop.TheVariants as stop
use Rattle.warg_program.specs.declared.stop.Access.TheVariants as access
use Rattle.warg_program.proofs.StopLaws.{rose_earlier}

-- nothing was changed since an earlier moment
module _ (old mid after : SeenFiles) (kept : mid.held ≡ old.held) (rises : old.faults ≤ mid.faults) where
  file_since : (path bytes : List ℕ) → HasFile mid path bytes → HasFile old path bytes
  file_since path bytes h = subst (λ held. IfSome held (λ files. file_at files path ≡ Some bytes)) kept h

  pub replies_since : (path : List ℕ) (replies : List Reply) → HasReplies mid path replies → HasReplies old path replies
  replies_since path replies h = record { bytes = h.bytes; there = file_since path h.bytes h.there; read = h.read }

  pub checked_since : (path : List ℕ) (listed : List Listed) → HasChecked mid path listed → HasChecked old path listed
  checked_since path listed h = record { bytes = h.bytes; there = file_since path h.bytes h.there; inside = h.inside; read = h.read; same = h.same }

  other_since : (path : List ℕ) (form : Form) → HasOther mid path form → HasOther old path form
  other_since path form h = record { bytes = h.bytes; there = file_since path h.bytes h.there; other = h.other }

  pub source_since : (s : Stop) (path : List ℕ) (form : Form) → IsSourceCause s path form mid after → IsSourceCause s path form old after
  source_since (stop.Missing at) path form h = (h.0, subst (λ held. IfSome held (λ files. file_at files path ≡ None)) kept h.1)
  source_since (stop.Fault (access.Read at)) path form h = (h.0, rose_earlier old.faults mid.faults after.faults rises h.1)
  source_since (stop.Bad at other) path form h = (h.0, h.1, other_since path form h.2)
  source_since stop.Memory path form h = tt
  source_since _ path form h = absurd h

-- ---- the stop of an error

abbrev pub is_memory : ClientError → Bool
is_memory error.Memory = true
is_memory _ = false

-- why nothing is replayed, by the stop of its error
pub replay_cause : (e : ClientError) (text : List ℕ) (replies : List Reply) (listed : List Listed) → IsReplayFault (accepts_listed listed) replies e text → (IsReplayable (accepts_listed listed) replies text → e ≡ error.Memory) → IsReplayCause (refusal_of e) text replies listed
replay_cause error.Memory text replies listed h short = tt
replay_cause e text replies listed (inl is) short = cc
replay_cause e text replies listed (inr h) short = record { cause = h; not_replayable = λ can. false≢true (ap is_memory (short can)) }
