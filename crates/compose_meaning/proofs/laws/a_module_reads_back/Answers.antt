use Rattle.compose_meaning.proofs.ModuleLaws.{module_reads}
use Rattle.compose_meaning.proofs.laws.a_module_reads_back.Goals as goal

pub returns : goal.returns
returns c = module_reads
