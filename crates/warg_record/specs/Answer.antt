-- What a reader answers.
use Rattle.std.specs.Prelude.{◌≡◌, Option, Some, None, Result, Ok, Err}
use Rattle.warg_record.specs.declared.error.EnvelopeError.{EnvelopeError}
use Rattle.warg_record.specs.declared.error.EnvelopeError.TheVariants as error

-- `Form` where nothing is read; want of memory says nothing
abbrev pub Refuses : {Y : Type 0} → EnvelopeError → Option Y → Type 0
Refuses error.Form reading = reading ≡ None
Refuses error.Memory reading = Unit {0}

-- What a reader returned, seen by view, is what the reading gives, unless memory ran out.
abbrev pub GivesOrForm : {X Y : Type 0} → (X → Y) → Result X EnvelopeError → Option Y → Type 0
GivesOrForm view (Ok x) reading = reading ≡ Some (view x)
GivesOrForm view (Err e) reading = Refuses e reading
