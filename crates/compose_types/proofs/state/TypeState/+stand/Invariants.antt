use Rattle.std.proofs.Common.{length}
use Rattle.compose_types.proofs.state.TypeState.+stand.Given as goal

abbrev pub decreases-stand : goal.decreases-stand
decreases-stand l = length l.self.now.1
