use Rattle.compose_meaning.proofs.ExportedLaws.{brings_exported}
use Rattle.compose_meaning.proofs.laws.an_instance_brings_what_it_exports.Goals as goal

pub returns : goal.returns
returns c = brings_exported
