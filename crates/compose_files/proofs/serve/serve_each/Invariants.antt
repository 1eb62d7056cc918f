use Rattle.std.proofs.Common.{◌≡◌, ◌≤◌, Some}
use Rattle.warg_base.specs.Files.{FileMap}
use Rattle.compose_files.specs.Built.{AfterSteps}
use Rattle.compose_files.specs.Composed.{ServesAt}
use Rattle.compose_files.specs.View.{built_of, sources}
use Rattle.compose_files.proofs.serve.serve_each.Given as goal

abbrev pub invariant-loop-place : goal.invariant-loop-place
invariant-loop-place g l = record {
  never_falls : g.F.Files.faults l.initial.files ≤ g.F.Files.faults l.files;
  kept : g.F.Files.told l.files ≡ g.F.Files.told l.initial.files;
  served : (held : FileMap) → g.F.Files.told l.initial.files ≡ Some held → AfterSteps (ServesAt (sources l.config held) l.instance l.target.0 l.names) (built_of l.initial.builder) l.place (built_of l.builder);
}
