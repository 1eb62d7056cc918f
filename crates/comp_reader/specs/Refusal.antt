-- What a reader answers, against the reading of its bytes.
use Rattle.std.specs.Prelude.{◌≡◌, ◌++◌, ℕ, List, Option, Some, None, Result, Ok, Err}
use Rattle.warg_values.specs.Answers as answers
use Rattle.comp_format.specs.Fault.{Fault, Form, NotCarried}
use Rattle.comp_format.specs.Items.{ItemTree}
use Rattle.comp_format.specs.Sections.{Section, section_items}
use Rattle.comp_reader.specs.declared.error.ReadError.{ReadError}
use Rattle.comp_reader.specs.declared.error.ReadError.TheVariants as errors
use Rattle.comp_reader.specs.declared.refusal.Refusal.{Refusal}
use Rattle.comp_reader.specs.declared.refusal.Refusal.TheVariants as refusals

-- The fault that an error tells. Want of memory tells none.
abbrev pub error_fault : ReadError → Option Fault
error_fault errors.Memory = None
error_fault (errors.Form at) = Some Form
error_fault (errors.NotCarried at) = Some NotCarried

-- the same of a refusal whose place is not known yet
abbrev pub fault_of : Refusal → Option Fault
fault_of refusals.Memory = None
fault_of (refusals.Form left) = Some Form
fault_of (refusals.NotCarried left) = Some NotCarried

-- A refusal is the reading's fault, unless memory ran out.
abbrev pub Fails : {Y : Type 0} → Refusal → Result Y Fault → Type 0
Fails refusal read = answers.Fails fault_of refusal read

-- What a reader answers, seen by view, is what the reading gives, unless memory ran out.
abbrev pub Gives : {X Y : Type 0} → (X → Y) → Result X Refusal → Result Y Fault → Type 0
Gives view answer read = answers.Gives fault_of view answer read

-- What a reader of a section does to items: it adds those of the section, or refuses by the section's fault.
abbrev pub Adds : Result (Unit {0}) Refusal → Result Section Fault → List ItemTree → List ItemTree → Type 0
Adds (Ok u) read old new = (s : Section) × (read ≡ Ok s) × (new ≡ old ++ section_items s)
Adds (Err refusal) read old new = Fails refusal read

-- the refusal of what has no form
abbrev pub IsForm : Refusal → Type 0
IsForm (refusals.Form left) = Unit {0}
IsForm _ = ⊥

-- the same fault, wherever its place is
abbrev pub SameFault : Refusal → Refusal → Type 0
SameFault refusals.Memory refusal = refusal ≡ refusals.Memory
SameFault (refusals.Form left) refusal = (other : ℕ) × (refusal ≡ refusals.Form other)
SameFault (refusals.NotCarried left) refusal = (other : ℕ) × (refusal ≡ refusals.NotCarried other)

-- the error of a refusal, wherever its place is
abbrev pub IsPlaced : Refusal → ReadError → Type 0
IsPlaced refusals.Memory error = error ≡ errors.Memory
IsPlaced (refusals.Form left) error = (place : ℕ) × (error ≡ errors.Form place)
IsPlaced (refusals.NotCarried left) error = (place : ℕ) × (error ≡ errors.NotCarried place)
