use Rattle.std.proofs.Common.{◌≡◌, ◌≤◌, ◌-◌, ◌^◌, length, Some}
use Rattle.warg_base.specs.Files.{FileMap}
use Rattle.compose_files.specs.Built.{AfterSteps, Built}
use Rattle.compose_files.specs.Composed.{HasTurn, IsStarted}
use Rattle.compose_files.specs.View.{built_of, sources}
use Rattle.compose_files.proofs.composer.build.Given as goal

abbrev pub invariant-loop-place : goal.invariant-loop-place
invariant-loop-place g l = record {
  never_falls : g.F.Files.faults l.fn.files ≤ g.F.Files.faults l.files;
  kept : g.F.Files.told l.files ≡ g.F.Files.told l.fn.files;
  turns : (held : FileMap) → g.F.Files.told l.fn.files ≡ Some held
      → (start : Built) × IsStarted l.root (sources l.config held) start × AfterSteps (HasTurn (sources l.config held)) start l.place (built_of l.builder) × (l.place ≤ length (built_of l.builder).named);
}

abbrev pub decreases-loop-place : goal.decreases-loop-place
decreases-loop-place g l = 2 ^ 64 - l.place
