use Rattle.compose_bundle.proofs.WholeLaws.{bundle_whole}
use Rattle.compose_bundle.proofs.laws.bundles_are_whole.Goals as goal

pub returns : goal.returns
returns c = bundle_whole
