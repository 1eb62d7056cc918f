use Rattle.compose_meaning.proofs.TypeLaws.{instance_written}
use Rattle.compose_meaning.proofs.laws.an_instance_type_reads_back.Goals as goal

pub returns : goal.returns
returns c = instance_written
