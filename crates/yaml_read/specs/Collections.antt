-- What reads of lists and maps take.
use Rattle.std.specs.Prelude.{ℕ, zero, suc, ◌+◌, nat_lt, List, [], ◌∷◌, ◌++◌, Bool, true, false, if◌then◌else◌, Option, Some, None, Result, Ok, Err}
use Rattle.warg_values.specs.Reading.{◌>>=◌}
use Rattle.yaml_small.specs.declared.event.Event.{Event}
use Rattle.yaml_small.specs.declared.event.Event.TheVariants as events
use Rattle.yaml_read.specs.declared.bracket.Bracket.{Bracket}
use Rattle.yaml_read.specs.declared.bracket.Bracket.TheVariants as brackets
use Rattle.yaml_read.specs.Source.{Source, Refusal, WrongEvent, TooManyEvents, pull, front, taken, Refused, refused, found_at}
use Rattle.yaml_read.specs.Scalar.{any_at, is_null}

abbrev pub is_bracket : Bracket → Event → Bool
is_bracket brackets.ListStart events.SequenceStart = true
is_bracket brackets.ListEnd events.SequenceEnd = true
is_bracket brackets.MapStart events.MappingStart = true
is_bracket brackets.MapEnd events.MappingEnd = true
is_bracket bracket event = false

abbrev pub wanted : Bracket → Event → Result (Unit {0}) Refusal
wanted bracket event = if is_bracket bracket event then Ok tt else Err (WrongEvent event)

-- the start or end of a list or map, which is taken
unfoldable pub bracket_at : Bracket → Source → Result (Unit {0} × Source) Refused
bracket_at bracket s = taken (wanted bracket) s

abbrev pub ended : Bool → Source → Result (Bool × Source) Refused
ended true s = pull s >>= λ emitted. Ok (true, emitted.1)
ended false s = Ok (false, s)

-- Whether the end of a list or map stands here: it is taken.
unfoldable pub end_at : Bracket → Source → Result (Bool × Source) Refused
end_at bracket s = front s >>= λ event. ended (is_bracket bracket event) s

abbrev pub is_stream_end : Event → Bool
is_stream_end events.StreamEnd = true
is_stream_end event = false

-- A read within a list or map takes an event or more, and does not stand at the stream's end.
abbrev pub progressed : {X : Type 0} → ℕ → Event → X × Source → Result (X × Source) Refused
progressed left event read = if nat_lt read.1.left left then Ok read else refused read.1 (WrongEvent event)

unfoldable pub item_at : {X : Type 0} → (Source → Result (X × Source) Refused) → Source → Result (X × Source) Refused
item_at read s =
    front s >>= λ event.
    if is_stream_end event then refused s (WrongEvent event) else (read s >>= λ x. progressed s.left event x)

-- the items of a list up to its end, each put to what was read before
unfoldable pub items_at : {X : Type 0} → (X → ℕ → Source → Result (X × Source) Refused) → ℕ → ℕ → X → Source → Result (X × Source) Refused
items_at fills zero at x s = refused s TooManyEvents
items_at fills (suc n) at x s =
    end_at brackets.ListEnd s >>= λ end.
    if end.0 then Ok (x, end.1) else (item_at (fills x at) end.1 >>= λ y. items_at fills n (at + 1) y.0 y.1)

unfoldable pub seq_at : {X : Type 0} → (X → ℕ → Source → Result (X × Source) Refused) → X → Source → Result (X × Source) Refused
seq_at fills x s = bracket_at brackets.ListStart s >>= λ start. items_at fills start.1.left 0 x start.1

-- a key, and its value put to what was read before
unfoldable pub entry_at : {X : Type 0} → (X → List ℕ → Source → Result (X × Source) Refused) → X → Source → Result (X × Source) Refused
entry_at fills x s = any_at s >>= λ key. item_at (fills x key.0) key.1

unfoldable pub entries_at : {X : Type 0} → (X → List ℕ → Source → Result (X × Source) Refused) → ℕ → X → Source → Result (X × Source) Refused
entries_at fills zero x s = refused s TooManyEvents
entries_at fills (suc n) x s =
    end_at brackets.MapEnd s >>= λ end.
    if end.0 then Ok (x, end.1) else (entry_at fills x end.1 >>= λ y. entries_at fills n y.0 y.1)

unfoldable pub map_at : {X : Type 0} → (X → List ℕ → Source → Result (X × Source) Refused) → X → Source → Result (X × Source) Refused
map_at fills x s = bracket_at brackets.MapStart s >>= λ start. entries_at fills start.1.left x start.1

-- a map of one entry
unfoldable pub enum_at : {X : Type 0} → (X → List ℕ → Source → Result (X × Source) Refused) → X → Source → Result (X × Source) Refused
enum_at fills x s =
    bracket_at brackets.MapStart s >>= λ start. entry_at fills x start.1 >>= λ y. bracket_at brackets.MapEnd y.1 >>= λ end. Ok (y.0, end.1)

-- `null` or `~` of any style
abbrev pub is_nothing : Event → Bool
is_nothing (events.Scalar text style) = is_null text
is_nothing event = false

abbrev pub opted : {X : Type 0} → Bool → (Source → Result (X × Source) Refused) → Source → Result (Option X × Source) Refused
opted true read s = pull s >>= λ emitted. Ok (None, emitted.1)
opted false read s = read s >>= λ x. Ok (Some x.0, x.1)

unfoldable pub option_at : {X : Type 0} → (Source → Result (X × Source) Refused) → Source → Result (Option X × Source) Refused
option_at read s = front s >>= λ event. opted (is_nothing event) read s

-- a list of two and of three
unfoldable pub pair_at : {X Y : Type 0} → (Source → Result (X × Source) Refused) → (Source → Result (Y × Source) Refused) → Source → Result ((X × Y) × Source) Refused
pair_at first second s =
    bracket_at brackets.ListStart s >>= λ start. item_at first start.1 >>= λ x. item_at second x.1 >>= λ y.
    bracket_at brackets.ListEnd y.1 >>= λ end. Ok ((x.0, y.0), end.1)

unfoldable pub triple_at : {X Y Z : Type 0} → (Source → Result (X × Source) Refused) → (Source → Result (Y × Source) Refused) → (Source → Result (Z × Source) Refused)
    → Source → Result ((X × Y × Z) × Source) Refused
triple_at first second third s =
    bracket_at brackets.ListStart s >>= λ start. item_at first start.1 >>= λ x. item_at second x.1 >>= λ y. item_at third y.1 >>= λ z.
    bracket_at brackets.ListEnd z.1 >>= λ end. Ok ((x.0, y.0, z.0), end.1)

-- what was read, put to something
abbrev pub mapped_at : {X Y : Type 0} → (X → Y) → (Source → Result (X × Source) Refused) → Source → Result (Y × Source) Refused
mapped_at f read s = read s >>= λ x. Ok (f x.0, x.1)

-- one more item of a list
abbrev pub pushed : {X : Type 0} → List X → X → List X
pushed xs x = xs ++ (x ∷ [])

-- what was read, put to a test
abbrev pub checked_at : {X Y : Type 0} → (X → Result Y Refusal) → (Source → Result (X × Source) Refused) → Source → Result (Y × Source) Refused
checked_at f read s = read s >>= λ x. found_at x.1 (f x.0) >>= λ y. Ok (y, x.1)

-- a read that takes nothing
abbrev pub refused_at : {X : Type 0} → Refusal → Source → Result (X × Source) Refused
refused_at refusal s = refused s refusal

abbrev pub is_scalar : Event → Bool
is_scalar (events.Scalar text style) = true
is_scalar event = false

-- whether a scalar stands there, which stays
unfoldable pub scalar_front : Source → Result Bool Refused
scalar_front s = front s >>= λ event. Ok (is_scalar event)
