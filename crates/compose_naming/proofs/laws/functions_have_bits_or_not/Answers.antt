use Rattle.compose_naming.proofs.LeftLaws.{bits_or_not}
use Rattle.compose_naming.proofs.laws.functions_have_bits_or_not.Goals as goal

pub returns : goal.returns
returns c = bits_or_not
