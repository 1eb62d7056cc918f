-- What the code's values stand for, and what its calls answer.
use Rattle.std.specs.Prelude.{◌≡◌, Bool, true, false, option_copied, Result, Ok, Err}
use Rattle.yaml_scan.specs.Lines.{lines_behind}
use Rattle.yaml_small.specs.declared.event.Event.{Event}
use Rattle.yaml_small.specs.declared.error.ScanError.{ScanError}
use Rattle.yaml_small.specs.declared.error.ScanError.TheVariants as errors
use Rattle.yaml_small.specs.declared.place.Place.{Place}
use Rattle.yaml_small.specs.declared.parser.Parser.{Parser}
use Rattle.yaml_small.specs.Places.{At}
use Rattle.yaml_small.specs.Scalars.{Fault, Form, NotCarried, TooDeep, Cut}
use Rattle.yaml_small.specs.Stream.{State}

abbrev pub place_at : Place → At
place_at p = record { col = p.col; line = p.line.now; later = lines_behind (option_copied p.later) }

-- the state that a parser is in
abbrev pub state_of : Parser → State
state_of p = record { mode = p.mode; frames = p.frames.items; at = place_at p.place }

-- Where the text ends too early the form is wrong.
abbrev pub is_form : Fault → Bool
is_form Form = true
is_form NotCarried = false
is_form TooDeep = false
is_form Cut = true

abbrev pub fails_in_form : {Y : Type 0} → Result Y Fault → Bool
fails_in_form (Ok y) = false
fails_in_form (Err fault) = is_form fault

-- An error is the fault, wherever its marker stands, or want of memory.
abbrev pub ScanFails : {Y : Type 0} → ScanError → Result Y Fault → Type 0
ScanFails errors.Memory read = Unit {0}
ScanFails (errors.Form marker) read = fails_in_form read ≡ true
ScanFails (errors.NotCarried marker) read = read ≡ Err NotCarried
ScanFails (errors.TooDeep marker) read = read ≡ Err TooDeep

-- What a call gave, seen by view, is what was to be read; and its error is the fault.
abbrev pub ScanGives : {X Y : Type 0} → (X → Y) → Result X ScanError → Result Y Fault → Type 0
ScanGives view (Ok x) read = read ≡ Ok (view x)
ScanGives view (Err e) read = ScanFails e read

-- the event alone
abbrev pub event_of : Result (Event × State) Fault → Result Event Fault
event_of (Ok emitted) = Ok emitted.0
event_of (Err fault) = Err fault
