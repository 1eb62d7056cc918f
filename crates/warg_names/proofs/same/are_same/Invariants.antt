use Rattle.std.proofs.Common.{◌≡◌, map, length}
use Rattle.semver.specs.Identifiers.{comparator_view}
use Rattle.warg_names.specs.Same.{same_requirement}
use Rattle.warg_names.proofs.same.are_same.Given as goal

abbrev pub invariant-loop-left : goal.invariant-loop-left
invariant-loop-left l = same_requirement (map comparator_view l.fn.a) (map comparator_view l.fn.b) ≡ same_requirement (map comparator_view l.left) (map comparator_view l.right)

abbrev pub decreases-loop-left : goal.decreases-loop-left
decreases-loop-left l = length l.left
