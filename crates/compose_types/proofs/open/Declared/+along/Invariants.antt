use Rattle.std.proofs.Common.{length}
use Rattle.compose_types.proofs.open.Declared.+along.Given as goal

abbrev pub decreases-along : goal.decreases-along
decreases-along l = length l.path.now
