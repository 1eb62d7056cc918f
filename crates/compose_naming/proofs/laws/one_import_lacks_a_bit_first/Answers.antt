use Rattle.compose_naming.proofs.LeftLaws.{one_first}
use Rattle.compose_naming.proofs.laws.one_import_lacks_a_bit_first.Goals as goal

pub returns : goal.returns
returns c = one_first
