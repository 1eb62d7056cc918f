use Rattle.compose_files.proofs.GraphBuilt.{graph_is_built}
use Rattle.compose_files.proofs.GraphOf.{built_is_graph}
use Rattle.compose_files.proofs.laws.what_is_built_is_the_graph.Goals as goal

pub returns-clause-built : goal.returns-clause-built
returns-clause-built c root s b built = built_is_graph root s b built

pub returns-clause-found : goal.returns-clause-found
returns-clause-found c root s g h = graph_is_built root s g h
