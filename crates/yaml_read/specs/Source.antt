-- What typed reads take from: a parser's state, and how many events may still be taken.
use Rattle.std.specs.Prelude.{ℕ, ◌-◌, ◌==◌, List, if◌then◌else◌, Result, Ok, Err}
use Rattle.warg_values.specs.Reading.{◌>>=◌}
use Rattle.yaml_small.specs.declared.event.Event.{Event}
use Rattle.yaml_small.specs.Scalars.{Fault}
use Rattle.yaml_small.specs.Stream.{State, next}

pub record Source : Type 0 where
  pub state : State
  pub left : ℕ

-- Why a value was not read.
pub data Refusal : Type 0 where
  -- a scalar whose text the read does not take
  WrongScalar : List ℕ → Refusal
  -- an event of another kind or style than the read takes
  WrongEvent : Event → Refusal
  -- no carried document goes on here
  NoEvent : Fault → Refusal
  -- a text that is no number in the type's range
  WrongNumber : List ℕ → Refusal
  -- a real number, which has no value here
  RealForm : Refusal
  Unsupported : Refusal
  -- more stands behind the value
  NotEnded : Refusal
  UnknownField : List ℕ → Refusal
  MissingField : List ℕ → Refusal
  -- more events than are counted
  TooManyEvents : Refusal

-- Why a value was not read, and what that leaves: the events taken so far stay taken.
pub record Refused : Type 0 where
  pub refusal : Refusal
  pub leaves : Source

abbrev pub refused : {X : Type 0} → Source → Refusal → Result X Refused
refused s refusal = Err (record { refusal = refusal; leaves = s })

-- what was found at a place, which is left there where it is refused
abbrev pub found_at : {X : Type 0} → Source → Result X Refusal → Result X Refused
found_at s (Ok x) = Ok x
found_at s (Err refusal) = refused s refusal

abbrev pub pulled : Source → Result (Event × State) Fault → Result (Event × Source) Refused
pulled s (Ok emitted) = Ok (emitted.0, record { state = emitted.1; left = s.left - 1 })
pulled s (Err fault) = refused s (NoEvent fault)

-- why a value was not read, alone
abbrev pub why : {X : Type 0} → Result X Refused → Result X Refusal
why (Ok x) = Ok x
why (Err refused) = Err refused.refusal

-- the next event, and what is behind it
unfoldable pub pull : Source → Result (Event × Source) Refused
pull s = if s.left == 0 then refused s TooManyEvents else pulled s (next s.state)

abbrev pub event_alone : Result (Event × Source) Refused → Result Event Refused
event_alone (Ok emitted) = Ok emitted.0
event_alone (Err refused) = Err refused

-- the next event, which stays
unfoldable pub front : Source → Result Event Refused
front s = event_alone (pull s)

-- what an event is taken for
unfoldable pub taken : {X : Type 0} → (Event → Result X Refusal) → Source → Result (X × Source) Refused
taken f s = pull s >>= λ emitted. found_at emitted.1 (f emitted.0) >>= λ x. Ok (x, emitted.1)
