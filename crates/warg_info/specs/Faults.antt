-- Why published records are not kept.
use Rattle.std.specs.Prelude.{◌≡◌, ℕ, ◌&&◌, if◌then◌else◌, Bool, true, false, Option, Some, None, List, [], ◌∷◌, ◌++◌}
use Rattle.warg_record.specs.Record.{Kind}
use Rattle.warg_record.specs.Envelope.{Signed}
use Rattle.warg_log.specs.Breaches.{IsBreach, wants_memory}
use Rattle.warg_log.specs.Rules.{Accepts, breach_of, any_signature}
use Rattle.warg_log.specs.declared.error.ValidationError.{ValidationError}
use Rattle.warg_exchange.specs.declared.logs.PublishedRecord.{PublishedRecord}
use Rattle.warg_info.specs.declared.error.TakeError.{TakeError}
use Rattle.warg_info.specs.declared.error.TakeError.TheVariants as error
use Rattle.warg_info.specs.declared.error.ReplayError.{ReplayError}
use Rattle.warg_info.specs.declared.error.ReplayError.TheVariants as replay
use Rattle.warg_info.specs.Kept.{Kept, IsEnvelope, IsKeptAs, Grows, signed_log, is_above, last_index}

-- the error is a record's first breach behind a log
abbrev pub IsUnlawful : ValidationError → Kind → Accepts → List Kept → Signed → Type 0
IsUnlawful e kind accepts log s = (wants_memory e ≡ false) × IsBreach e (breach_of kind accepts (signed_log log) s)

-- a published record is not passed over behind a log, and its envelope breaks this rule
pub record BreaksRule (e : ValidationError) (kind : Kind) (accepts : Accepts) (log : List Kept) (p : PublishedRecord) :
    Type 0 where
  pub new : is_above p.registry_index (last_index log) ≡ true
  pub envelope : Kept
  pub is : IsKeptAs kind p envelope
  pub unlawful : IsUnlawful e kind accepts log envelope.signed

-- a published record is no envelope; or its envelope breaks this rule behind a log. Want of memory says nothing
abbrev pub IsTakeFault : TakeError → Kind → Accepts → List Kept → PublishedRecord → Type 0
IsTakeFault error.BadEnvelope kind accepts log p = ¬ IsEnvelope kind p
IsTakeFault (error.Unlawful e) kind accepts log p = BreaksRule e kind accepts log p
IsTakeFault error.Memory kind accepts log p = Unit {0}

-- one of some published records has this fault, behind the log with those before it
pub record FirstFault (e : TakeError) (kind : Kind) (accepts : Accepts) (log : List Kept) (ps : List PublishedRecord)
    (kept : List Kept) : Type 0 where
  pub before : List PublishedRecord
  pub refused : PublishedRecord
  pub after : List PublishedRecord
  pub parts : ps ≡ before ++ refused ∷ after
  pub grows : Grows kind log before kept
  pub fault : IsTakeFault e kind accepts kept refused

-- ---- of stored records

-- whether each place is above the one before it
abbrev pub are_above : Option ℕ → List PublishedRecord → Bool
are_above before [] = true
are_above before (p ∷ ps) = is_above p.registry_index before && are_above (Some p.registry_index) ps

abbrev pub ascends : List PublishedRecord → Bool
ascends ps = are_above None ps

-- the places do not ascend; or they do, and one of the records has this fault, signatures aside
abbrev pub IsReplayFault : ReplayError → Kind → List PublishedRecord → Type 0
IsReplayFault replay.NotAscending kind ps = ascends ps ≡ false
IsReplayFault replay.BadEnvelope kind ps =
    (ascends ps ≡ true) × (kept : List Kept) × FirstFault error.BadEnvelope kind any_signature [] ps kept
IsReplayFault (replay.Unlawful e) kind ps =
    (ascends ps ≡ true) × (kept : List Kept) × FirstFault (error.Unlawful e) kind any_signature [] ps kept
IsReplayFault replay.Memory kind ps = Unit {0}

-- how the fault of a record is told
abbrev pub replay_error : TakeError → ReplayError
replay_error error.BadEnvelope = replay.BadEnvelope
replay_error (error.Unlawful e) = replay.Unlawful e
replay_error error.Memory = replay.Memory

-- ---- of one record alone

-- how it is told that a record breaks a rule
abbrev pub take_error : ValidationError → TakeError
take_error e = if wants_memory e then error.Memory else error.Unlawful e

-- a published record is no envelope
abbrev pub IsReadFault : TakeError → Kind → PublishedRecord → Type 0
IsReadFault error.BadEnvelope kind p = ¬ IsEnvelope kind p
IsReadFault (error.Unlawful e) kind p = ⊥
IsReadFault error.Memory kind p = Unit {0}

-- a record breaks this rule behind a log
abbrev pub IsKeepFault : TakeError → Kind → Accepts → List Kept → Signed → Type 0
IsKeepFault error.BadEnvelope kind accepts log s = ⊥
IsKeepFault (error.Unlawful e) kind accepts log s = IsUnlawful e kind accepts log s
IsKeepFault error.Memory kind accepts log s = Unit {0}
