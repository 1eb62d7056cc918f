use Rattle.compose_meaning.proofs.KeepLaws.{also_known}
use Rattle.compose_meaning.proofs.laws.another_number_is_known.Goals as goal

pub returns : goal.returns
returns c = also_known
