use Rattle.compose_meaning.proofs.KeepLaws.{entity_imported}
use Rattle.compose_meaning.proofs.laws.an_import_reads_back.Goals as goal

pub returns : goal.returns
returns c = entity_imported
