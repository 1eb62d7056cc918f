-- where what is left of the path leads is where the path leads
use Rattle.std.proofs.Common.{◌≡◌, fold}
use Rattle.std.specs.Path.Iter.{path_iter_remaining}
use Rattle.warg_config.specs.Answers.{names_of}
use Rattle.warg_config.specs.Paths.{place_of, step}
use Rattle.warg_config.proofs.paths.place_of.Given as goal

abbrev pub invariant-loop-part : goal.invariant-loop-part
invariant-loop-part l = fold step (names_of l.place.items) (path_iter_remaining l.part-iterator) ≡ place_of l.path
