use Rattle.std.proofs.Common.{map, length}
use Rattle.warg_vectors.specs.State.{named_view}
use Rattle.warg_vectors.specs.World.{AreGrowthsOf}
use Rattle.warg_vectors.proofs.GrowthLaws.{AreTakenUp}
use Rattle.warg_vectors.proofs.registry.take_up_all.Given as goal

abbrev pub invariant-loop-growth : goal.invariant-loop-growth
invariant-loop-growth l = AreGrowthsOf (map named_view l.fn.registries) l.fn.growths.items → AreTakenUp l.fn.registries l.registries l.growths.items

abbrev pub decreases-loop-growth : goal.decreases-loop-growth
decreases-loop-growth l = length l.growths.items
