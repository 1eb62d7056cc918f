-- the paths that were found, and those that are found among the paths that are left, are all
use Rattle.std.proofs.Common.{◌≡◌, ◌++◌, nat_eq, filter}
use Rattle.std.specs.BTreeMap.{keys}
use Rattle.std.specs.List.{starts_with}
use Rattle.warg_base.proofs.memory_files.paths_with.Given as goal

abbrev pub invariant-loop-file : goal.invariant-loop-file
invariant-loop-file l = l.paths.items ++ filter (λ q. starts_with nat_eq q l.folder) l.file-iterator ≡ filter (λ q. starts_with nat_eq q l.folder) (keys l.files)
