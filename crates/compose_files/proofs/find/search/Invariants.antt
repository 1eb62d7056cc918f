use Rattle.std.proofs.Common.{◌≡◌, ◌≤◌, suc, take, find, Some, None}
use Rattle.warg_base.specs.Files.{FileMap}
use Rattle.compose_files.specs.Built.{is_there}
use Rattle.compose_files.specs.Refusals.{candidates}
use Rattle.compose_files.specs.View.{sources}
use Rattle.compose_files.proofs.find.search.Given as goal

abbrev pub invariant-loop-folder : goal.invariant-loop-folder
invariant-loop-folder g l = record {
  never_falls : g.F.Files.faults l.fn.files ≤ g.F.Files.faults l.files;
  kept : g.F.Files.told l.files ≡ g.F.Files.told l.fn.files;
  absent : (held : FileMap) → g.F.Files.told l.fn.files ≡ Some held → find (is_there held) (take (suc l.folder-index) (candidates (sources l.config held) l.name)) ≡ None;
}
