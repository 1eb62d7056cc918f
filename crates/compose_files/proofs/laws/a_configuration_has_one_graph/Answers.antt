use Rattle.std.proofs.Common.{ap}
use Rattle.compose_files.proofs.GraphBuilt.{one_graph, one_graph_of}
use Rattle.compose_files.proofs.OneGraph.{one_built}
use Rattle.compose_files.proofs.laws.a_configuration_has_one_graph.Goals as goal

pub returns-clause-one : goal.returns-clause-one
returns-clause-one c root s g h p q = one_graph_of c.one_shape.ensures root s g h p q

pub returns-clause-graph : goal.returns-clause-graph
returns-clause-graph c root s a b p q = ap (λ b. b.graph) (one_built c.one_shape.ensures s root a b p q)

pub returns-clause-composed : goal.returns-clause-composed
returns-clause-composed c root s a b p q = one_graph c.one_shape.ensures root s a b p q
