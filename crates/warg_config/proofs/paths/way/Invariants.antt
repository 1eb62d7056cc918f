-- as many `..` as there were turns
use Rattle.std.proofs.Common.{◌≡◌}
use Rattle.std.specs.Prelude.{replicate}
use Rattle.std.specs.Path.{parent_dir}
use Rattle.warg_config.specs.Answers.{names_of}
use Rattle.warg_config.proofs.paths.way.Given as goal

abbrev pub invariant-loop-turn : goal.invariant-loop-turn
invariant-loop-turn l = names_of l.names.items ≡ replicate l.turn parent_dir
