use Rattle.compose_meaning.proofs.KeepLaws.{entity_written}
use Rattle.compose_meaning.proofs.laws.what_is_written_reads_back.Goals as goal

pub returns : goal.returns
returns c = entity_written
