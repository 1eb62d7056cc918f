use Rattle.compose_coherence.proofs.Agreeing.{one_tree_func}
use Rattle.compose_coherence.proofs.laws.a_coherent_function_has_one_tree.Goals as goal

pub returns : goal.returns
returns c = one_tree_func
