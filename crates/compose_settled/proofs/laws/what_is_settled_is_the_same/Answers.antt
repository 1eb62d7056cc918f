use Rattle.compose_settled.proofs.Lefts.{same_placed}
use Rattle.compose_settled.proofs.laws.what_is_settled_is_the_same.Goals as goal

pub returns : goal.returns
returns c = same_placed
