use Rattle.std.proofs.Common.{◌≡◌, ◌≤◌, Some}
use Rattle.warg_base.specs.Files.{FileMap}
use Rattle.compose_files.specs.Built.{AfterSteps, DefinesAt}
use Rattle.compose_files.specs.View.{built_of, sources}
use Rattle.compose_files.proofs.define.define_all.Given as goal

abbrev pub invariant-loop-path : goal.invariant-loop-path
invariant-loop-path g l = record {
  never_falls : g.F.Files.faults l.initial.files ≤ g.F.Files.faults l.files;
  kept : g.F.Files.told l.files ≡ g.F.Files.told l.initial.files;
  named : (built_of l.builder).named ≡ (built_of l.initial.builder).named;
  defines : (held : FileMap) → g.F.Files.told l.initial.files ≡ Some held → AfterSteps (DefinesAt (sources l.config held)) (built_of l.initial.builder) l.path-index (built_of l.builder);
}
