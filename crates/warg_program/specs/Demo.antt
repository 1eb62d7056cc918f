-- The command `demo SEED COUNT`: what it makes, and why it makes nothing.
use Rattle.std.specs.Prelude.{◌≡◌, ℕ, List}
use Rattle.warg_plan.specs.Walk.{Entry}
use Rattle.warg_demo.specs.Demonstrated.{IsDemonstrated, IsUndemonstrated}
use Rattle.warg_replay.specs.ClientError.TheVariants as error
use Rattle.warg_program.specs.Lines.{demo_lines}
use Rattle.warg_program.specs.declared.stop.Stop.{Stop}
use Rattle.warg_program.specs.declared.stop.Stop.TheVariants as stop

-- By exchanges with the registries of the demo world, these are the component of the plan of its text, and the lines that
-- tell how many entries it has and how many imports it leaves open, and of its lock and of it.
pub record IsDemonstration (seed count : ℕ) (bytes lines : List ℕ) : Type 0 where
  pub entries : List Entry
  pub left : List (List ℕ)
  pub lock : List ℕ
  pub demonstrated : IsDemonstrated seed count entries left lock bytes
  pub lines_are : lines ≡ demo_lines entries left lock bytes

-- why nothing is assembled: want of memory is told as such, and says nothing
abbrev pub IsDemonstrationCause : Stop → (seed count : ℕ) → Type 0
IsDemonstrationCause (stop.Refused error.Memory) seed count = ⊥
IsDemonstrationCause (stop.Refused e) seed count = IsUndemonstrated seed count e
IsDemonstrationCause stop.Memory seed count = Unit {0}
IsDemonstrationCause _ seed count = ⊥
