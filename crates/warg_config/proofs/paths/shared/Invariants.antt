-- the way between what is left is the whole
use Rattle.std.proofs.Common.{◌≡◌, ◌≤◌, ◌-◌, length, drop}
use Rattle.warg_config.specs.Answers.{names_of}
use Rattle.warg_config.specs.Paths.{way}
use Rattle.warg_config.proofs.paths.shared.Given as goal

abbrev pub invariant-loop-count : goal.invariant-loop-count
invariant-loop-count l =
    (way (names_of l.from) (names_of l.to) ≡ way (names_of (drop l.count l.from)) (names_of (drop l.count l.to)))
    × (l.count ≤ length l.from) × (l.count ≤ length l.to)

abbrev pub decreases-loop-count : goal.decreases-loop-count
decreases-loop-count l = length l.from - l.count
