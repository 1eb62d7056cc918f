-- What the code's values stand for, and what its calls answer.
use Rattle.std.specs.Prelude.{◌≡◌, Bool, true, false, Result, Ok, Err}
use Rattle.yaml_small.specs.declared.error.ScanError.{ScanError}
use Rattle.yaml_small.specs.declared.error.ScanError.TheVariants as scans
use Rattle.yaml_small.specs.Scalars as faults
use Rattle.yaml_small.specs.Answers.{state_of, is_form}
use Rattle.yaml_read.specs.declared.error.DeError.{DeError}
use Rattle.yaml_read.specs.declared.error.DeError.TheVariants as errors
use Rattle.yaml_read.specs.declared.deserializer.YamlDeserializer.{YamlDeserializer}
use Rattle.yaml_read.specs.Source.{Source, Refusal, WrongScalar, WrongEvent, NoEvent, WrongNumber, RealForm, Unsupported, NotEnded, UnknownField, MissingField, TooManyEvents, Refused, refused, why}

-- what a deserializer reads from
abbrev pub source_of : YamlDeserializer → Source
source_of de = record { state = state_of de.parser; left = de.left }

abbrev pub lacks_form : {Y : Type 0} → Result Y Refusal → Bool
lacks_form (Ok y) = false
lacks_form (Err (WrongScalar text)) = false
lacks_form (Err (WrongEvent event)) = false
lacks_form (Err (NoEvent fault)) = is_form fault
lacks_form (Err (WrongNumber text)) = false
lacks_form (Err RealForm) = false
lacks_form (Err Unsupported) = false
lacks_form (Err NotEnded) = false
lacks_form (Err (UnknownField name)) = false
lacks_form (Err (MissingField name)) = false
lacks_form (Err TooManyEvents) = false

abbrev pub FailsToScan : {Y : Type 0} → ScanError → Result Y Refusal → Type 0
FailsToScan scans.Memory read = ⊥
FailsToScan (scans.Form marker) read = lacks_form read ≡ true
FailsToScan (scans.NotCarried marker) read = read ≡ Err (NoEvent faults.NotCarried)
FailsToScan (scans.TooDeep marker) read = read ≡ Err (NoEvent faults.TooDeep)

-- An error is the refusal, wherever its marker stands and whatever was expected, or want of memory.
abbrev pub ReadFails : {Y : Type 0} → DeError → Result Y Refusal → Type 0
ReadFails errors.Memory read = Unit {0}
ReadFails (errors.UnexpectedScalar expected text marker) read = read ≡ Err (WrongScalar text)
ReadFails (errors.UnexpectedEvent expected event marker) read = read ≡ Err (WrongEvent event)
ReadFails (errors.Scan error) read = FailsToScan error read
ReadFails (errors.ParseNumber text) read = read ≡ Err (WrongNumber text)
ReadFails errors.Unsupported read = read ≡ Err Unsupported
ReadFails (errors.RealForm marker) read = read ≡ Err RealForm
ReadFails (errors.NotEnded marker) read = read ≡ Err NotEnded
ReadFails (errors.UnknownField name) read = read ≡ Err (UnknownField name)
ReadFails (errors.MissingField name) read = read ≡ Err (MissingField name)

-- What a call gave, seen by view, is what was to be read; and its error is the refusal.
abbrev pub ReadGives : {X Y : Type 0} → (X → Y) → Result X DeError → Result Y Refusal → Type 0
ReadGives view (Ok x) read = read ≡ Ok (view x)
ReadGives view (Err e) read = ReadFails e read

-- What a refused read leaves stands where it was refused.
abbrev pub StandsAt : {Y : Type 0} → Source → Result Y Refused → Type 0
StandsAt s (Ok y) = ⊥
StandsAt s (Err refused) = refused.leaves ≡ s

abbrev pub LeavesScan : {Y : Type 0} → Source → ScanError → Result Y Refused → Type 0
LeavesScan s scans.Memory read = ⊥
LeavesScan s (scans.Form marker) read = (lacks_form (why read) ≡ true) × StandsAt s read
LeavesScan s (scans.NotCarried marker) read = read ≡ refused s (NoEvent faults.NotCarried)
LeavesScan s (scans.TooDeep marker) read = read ≡ refused s (NoEvent faults.TooDeep)

-- An error is the refusal, and leaves this.
abbrev pub ReadLeaves : {Y : Type 0} → Source → DeError → Result Y Refused → Type 0
ReadLeaves s errors.Memory read = Unit {0}
ReadLeaves s (errors.UnexpectedScalar expected text marker) read = read ≡ refused s (WrongScalar text)
ReadLeaves s (errors.UnexpectedEvent expected event marker) read = read ≡ refused s (WrongEvent event)
ReadLeaves s (errors.Scan error) read = LeavesScan s error read
ReadLeaves s (errors.ParseNumber text) read = read ≡ refused s (WrongNumber text)
ReadLeaves s errors.Unsupported read = read ≡ refused s Unsupported
ReadLeaves s (errors.RealForm marker) read = read ≡ refused s RealForm
ReadLeaves s (errors.NotEnded marker) read = read ≡ refused s NotEnded
ReadLeaves s (errors.UnknownField name) read = read ≡ refused s (UnknownField name)
ReadLeaves s (errors.MissingField name) read = read ≡ refused s (MissingField name)

-- What a call gave, seen by view, is what was to be read; and its error is the refusal, and leaves this.
abbrev pub ReadTakes : {X Y : Type 0} → (X → Y) → Source → Result X DeError → Result Y Refused → Type 0
ReadTakes view s (Ok x) read = read ≡ Ok (view x)
ReadTakes view s (Err e) read = ReadLeaves s e read

-- An error is this refusal, or want of memory.
abbrev pub IsRefusal : DeError → Refusal → Type 0
IsRefusal errors.Memory refusal = Unit {0}
IsRefusal (errors.UnexpectedScalar expected text marker) refusal = refusal ≡ WrongScalar text
IsRefusal (errors.UnexpectedEvent expected event marker) refusal = refusal ≡ WrongEvent event
IsRefusal (errors.Scan error) refusal = ⊥
IsRefusal (errors.ParseNumber text) refusal = refusal ≡ WrongNumber text
IsRefusal errors.Unsupported refusal = refusal ≡ Unsupported
IsRefusal (errors.RealForm marker) refusal = refusal ≡ RealForm
IsRefusal (errors.NotEnded marker) refusal = refusal ≡ NotEnded
IsRefusal (errors.UnknownField name) refusal = refusal ≡ UnknownField name
IsRefusal (errors.MissingField name) refusal = refusal ≡ MissingField name
