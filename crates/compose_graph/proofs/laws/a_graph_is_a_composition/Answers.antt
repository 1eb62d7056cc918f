use Rattle.compose_graph.proofs.ComposedLaws.{is_composition}
use Rattle.compose_graph.proofs.laws.a_graph_is_a_composition.Goals as goal

pub returns : goal.returns
returns c = is_composition
