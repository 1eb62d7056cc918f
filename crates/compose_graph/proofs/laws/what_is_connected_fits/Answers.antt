use Rattle.compose_graph.proofs.WiringLaws.{each_fits}
use Rattle.compose_graph.proofs.laws.what_is_connected_fits.Goals as goal

pub returns : goal.returns
returns c = each_fits
