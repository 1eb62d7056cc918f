-- A parser's state, and the events that it emits from there.
use Rattle.std.specs.Prelude.{◌≡◌, ℕ, ◌-◌, List, [], ◌∷◌, ◌++◌, take, length, slice_get, Option, Result, Ok, Err, Bool, true, false, ◌==◌}
use Rattle.yaml_scan.specs.Bytes.{carriage_return}
use Rattle.yaml_small.specs.declared.event.Event.{Event}
use Rattle.yaml_small.specs.declared.event.Event.TheVariants.{SequenceStart, MappingStart}
use Rattle.yaml_small.specs.declared.state.Mode.{Mode}
use Rattle.yaml_small.specs.declared.state.Mode.TheVariants.{Begin, Ended}
use Rattle.yaml_small.specs.declared.state.Frame.{Frame}
use Rattle.yaml_small.specs.declared.state.Change.{Change}
use Rattle.yaml_small.specs.declared.state.Change.TheVariants.{Keep, Push, Pop}
use Rattle.yaml_small.specs.Places.{At}
use Rattle.yaml_small.specs.Scalars.{Fault, Form, NotCarried, TooDeep, Cut}
use Rattle.yaml_small.specs.Grammar.{first_at}
use Rattle.yaml_small.specs.Step.{Transition, step_at}

-- what is looked for, the open lists and maps with the innermost last, and the place
pub record State : Type 0 where
  pub mode : Mode
  pub frames : List Frame
  pub at : At

abbrev pub top_of : List Frame → Option Frame
top_of frames = slice_get frames (length frames - 1)

abbrev pub changed : Change → List Frame → List Frame
changed Keep frames = frames
changed (Push frame) frames = frames ++ (frame ∷ [])
changed Pop frames = take (length frames - 1) frames

-- the state behind a step
abbrev pub behind : List Frame → Transition → State
behind frames g = record { mode = g.mode; frames = changed g.change frames; at = g.at }

abbrev pub moved : List Frame → Result Transition Fault → Result (Event × State) Fault
moved frames (Ok g) = Ok (g.event, behind frames g)
moved frames (Err fault) = Err fault

-- the next event and the state behind it, or why there is none
unfoldable pub next : State → Result (Event × State) Fault
next s = moved s.frames (step_at s.mode (top_of s.frames) (length s.frames) s.at)

-- a text from its start
abbrev pub start : List ℕ → State
start text = record { mode = Begin; frames = []; at = first_at text }

-- From the first state these events lead to the second.
abbrev pub Runs : State → List Event → State → Type 0
Runs s [] z = s ≡ z
Runs s (e ∷ es) z = (m : State) × (next s ≡ Ok (e, m)) × Runs m es z

-- The text's events lead to the stream's end.
abbrev pub Emits : List ℕ → List Event → Type 0
Emits text es = (z : State) × Runs (start text) es z × (z.mode ≡ Ended)

-- Behind some events of the text comes this fault.
abbrev pub Refuses : List ℕ → Fault → Type 0
Refuses text fault = (es : List Event) × ((s : State) × (Runs (start text) es s × (next s ≡ Err fault)))

-- a fault that no further lines could mend
abbrev pub IsFinal : Fault → Type 0
IsFinal Form = Unit {0}
IsFinal NotCarried = Unit {0}
IsFinal TooDeep = Unit {0}
IsFinal Cut = ⊥

-- a carriage return is the text's last byte, which a line feed behind it would make part of a line's end
abbrev pub ends_return : List ℕ → Bool
ends_return [] = false
ends_return (c ∷ []) = c == carriage_return
ends_return (c ∷ d ∷ cs) = ends_return (d ∷ cs)

-- a list or map begins
abbrev pub begins_collection : Event → Bool
begins_collection SequenceStart = true
begins_collection MappingStart = true
begins_collection event = false

-- Were no list or map open, the step from here would begin one.
abbrev pub WouldBegin : State → Type 0
WouldBegin s =
    (t : Transition) × (step_at s.mode (top_of s.frames) 0 s.at ≡ Ok t) × (begins_collection t.event ≡ true)
