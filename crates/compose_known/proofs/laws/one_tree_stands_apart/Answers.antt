use Rattle.compose_known.proofs.TreeLaws.{tree_apart}
use Rattle.compose_known.proofs.laws.one_tree_stands_apart.Goals as goal

pub returns : goal.returns
returns c = tree_apart
