-- What single reads take a scalar for.
use Rattle.std.specs.Prelude.{ℕ, List, length, slice_index, ◌==◌, Bool, true, false, ◌&&◌, ◌||◌, nat_le, if◌then◌else◌, Option, Some, None, Result, Ok, Err, ℤ, int_le, bytes_eq, codes}
use Rattle.std.specs.Str.Parse.{digits_value, without_leading_plus, without_leading_sign, signed_digits_value}
use Rattle.yaml_small.specs.declared.event.Event.{Event}
use Rattle.yaml_small.specs.declared.event.Event.TheVariants as events
use Rattle.yaml_small.specs.declared.event.Style.TheVariants as styles
use Rattle.yaml_small.specs.Schema.{is_numeral}
use Rattle.warg_values.specs.Reading.{◌>>=◌}
use Rattle.yaml_read.specs.Source.{Source, Refusal, WrongScalar, WrongEvent, WrongNumber, taken, Refused, found_at}

-- a scalar's text, in any style, and in the plain style alone
abbrev pub any_text : Event → Result (List ℕ) Refusal
any_text (events.Scalar text style) = Ok text
any_text event = Err (WrongEvent event)

abbrev pub plain_text : Event → Result (List ℕ) Refusal
plain_text (events.Scalar text styles.Plain) = Ok text
plain_text event = Err (WrongEvent event)

abbrev pub truth : List ℕ → Result Bool Refusal
truth text =
    if bytes_eq text (codes "true") then Ok true
    else if bytes_eq text (codes "false") then Ok false
    else Err (WrongScalar text)

-- `null` or `~`
abbrev pub is_null : List ℕ → Bool
is_null text = bytes_eq text (codes "null") || bytes_eq text (codes "~")

-- one byte, which is a character of ASCII
abbrev pub character : List ℕ → Result ℕ Refusal
character text = if length text == 1 then Ok (slice_index text 0) else Err (WrongScalar text)

abbrev pub number_or : {N : Type 0} → List ℕ → Option N → Result N Refusal
number_or text None = Err (WrongNumber text)
number_or text (Some n) = Ok n

-- decimal digits, one or more, behind an optional plus, of a number within the limit
unfoldable pub unsigned_number : ℕ → List ℕ → Option ℕ
unsigned_number most text =
    if is_numeral 10 (without_leading_plus text) && nat_le (digits_value 10 (without_leading_plus text)) most then
    Some (digits_value 10 (without_leading_plus text))
    else None

-- the same with a minus too, of a number between the limits
abbrev pub within : ℤ → ℤ → ℤ → Bool
within least most n = int_le least n && int_le n most

unfoldable pub signed_number : ℤ → ℤ → List ℕ → Option ℤ
signed_number least most text =
    if is_numeral 10 (without_leading_sign text) && within least most (signed_digits_value 10 text) then
    Some (signed_digits_value 10 text)
    else None

abbrev pub unsigned : ℕ → List ℕ → Result ℕ Refusal
unsigned most text = number_or text (unsigned_number most text)

abbrev pub signed : ℤ → ℤ → List ℕ → Result ℤ Refusal
signed least most text = number_or text (signed_number least most text)

-- what an event is taken for: nothing at `null` or `~` in any style, and at the end of an empty document
abbrev pub unit_text : List ℕ → Result (Unit {0}) Refusal
unit_text text = if is_null text then Ok tt else Err (WrongScalar text)

abbrev pub unit : Event → Result (Unit {0}) Refusal
unit (events.Scalar text style) = unit_text text
unit events.StreamEnd = Ok tt
unit event = Err (WrongEvent event)

-- the next event as a scalar, of any style or plain, and what its text is taken for
unfoldable pub any_at : Source → Result (List ℕ × Source) Refused
any_at s = taken any_text s

unfoldable pub plain_at : Source → Result (List ℕ × Source) Refused
plain_at s = taken plain_text s

abbrev pub plain_as : {X : Type 0} → (List ℕ → Result X Refusal) → Source → Result (X × Source) Refused
plain_as f s = plain_at s >>= λ emitted. found_at emitted.1 (f emitted.0) >>= λ x. Ok (x, emitted.1)

abbrev pub bool_at : Source → Result (Bool × Source) Refused
bool_at s = plain_as truth s

abbrev pub char_at : Source → Result (ℕ × Source) Refused
char_at s = plain_as character s

abbrev pub unsigned_at : ℕ → Source → Result (ℕ × Source) Refused
unsigned_at most s = plain_as (unsigned most) s

abbrev pub signed_at : ℤ → ℤ → Source → Result (ℤ × Source) Refused
signed_at least most s = plain_as (signed least most) s

abbrev pub unit_at : Source → Result (Unit {0} × Source) Refused
unit_at s = taken unit s
