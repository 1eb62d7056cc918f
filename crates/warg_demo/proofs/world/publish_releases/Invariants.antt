use Rattle.std.proofs.Common.{◌≡◌}
use Rattle.warg_vectors.specs.State.{IsSound, world}
use Rattle.warg_demo.specs.World.{with_releases}
use Rattle.warg_demo.proofs.world.publish_releases.Given as goal

abbrev pub invariant-loop-minor : goal.invariant-loop-minor
invariant-loop-minor l = (world l.registry ≡ with_releases l.number l.needs l.minor (world l.initial.registry)) × (IsSound l.initial.registry → IsSound l.registry)
