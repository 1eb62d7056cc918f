-- the files are told as before, and what is left to look at has the file that all of it has
use Rattle.std.proofs.Common.{◌≡◌, ◌≤◌}
use Rattle.std.specs.Path.Iter.{ancestors_next}
use Rattle.warg_config.proofs.SearchLaws.{Searches}
use Rattle.warg_config.proofs.config.local_file.Given as goal

abbrev pub invariant-loop-folder : goal.invariant-loop-folder
invariant-loop-folder g l =
    (g.F.Files.faults l.fn.files ≤ g.F.Files.faults l.files)
    × (g.F.Files.told l.files ≡ g.F.Files.told l.fn.files)
    × Searches (g.F.Files.told l.fn.files) (ancestors_next l.folder-iterator) l.cwd
