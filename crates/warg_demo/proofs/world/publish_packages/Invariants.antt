use Rattle.std.proofs.Common.{◌≡◌}
use Rattle.warg_vectors.specs.State.{IsSound, world}
use Rattle.warg_demo.specs.World.{packages_drawn}
use Rattle.warg_demo.proofs.world.publish_packages.Given as goal

abbrev pub invariant-loop-number : goal.invariant-loop-number
invariant-loop-number l = ((record { state = l.draws.state; world = world l.registry }) ≡ packages_drawn l.pairs l.initial.draws.state l.number) × IsSound l.registry
