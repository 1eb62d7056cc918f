use Rattle.compose_coherence.proofs.Agreeing.{one_tree}
use Rattle.compose_coherence.proofs.laws.a_coherent_type_has_one_tree.Goals as goal

pub returns : goal.returns
returns c = one_tree
