use Rattle.compose_bundle.proofs.WholeLaws.{composition_defined}
use Rattle.compose_bundle.proofs.laws.defined_compositions.Goals as goal

pub returns : goal.returns
returns c = composition_defined
