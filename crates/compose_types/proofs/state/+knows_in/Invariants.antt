use Rattle.std.proofs.Common.{length}
use Rattle.compose_types.proofs.state.+knows_in.Given as goal

abbrev pub decreases-knows_in : goal.decreases-knows_in
decreases-knows_in l = length l.inner.now
