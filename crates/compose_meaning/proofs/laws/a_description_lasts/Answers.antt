use Rattle.compose_meaning.proofs.KeepLaws.{described_on}
use Rattle.compose_meaning.proofs.laws.a_description_lasts.Goals as goal

pub returns : goal.returns
returns c = described_on
