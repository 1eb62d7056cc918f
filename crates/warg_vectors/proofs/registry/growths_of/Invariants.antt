use Rattle.std.proofs.Common.{map, take}
use Rattle.warg_vectors.specs.State.{named_view}
use Rattle.warg_vectors.specs.World.{AreGrowthsOf}
use Rattle.warg_vectors.proofs.registry.growths_of.Given as goal

abbrev pub invariant-loop-named : goal.invariant-loop-named
invariant-loop-named l = AreGrowthsOf (map named_view (take l.named-index l.registries)) l.growths.items
