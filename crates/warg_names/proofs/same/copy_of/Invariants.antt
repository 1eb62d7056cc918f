use Rattle.std.proofs.Common.{◌≡◌, take, map}
use Rattle.semver.specs.Identifiers.{comparator_view}
use Rattle.warg_names.proofs.same.copy_of.Given as goal

abbrev pub invariant-loop-comparator : goal.invariant-loop-comparator
invariant-loop-comparator l = map comparator_view l.comparators.items ≡ map comparator_view (take l.comparator-index l.comparator-items)
