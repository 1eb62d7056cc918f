use Rattle.compose_meaning.proofs.TypeLaws.{component_written}
use Rattle.compose_meaning.proofs.laws.a_component_type_reads_back.Goals as goal

pub returns : goal.returns
returns c = component_written
