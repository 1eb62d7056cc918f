use Rattle.compose_bundle.proofs.WholeLaws.{bundle_defined}
use Rattle.compose_bundle.proofs.laws.bundling_is_defining.Goals as goal

pub returns : goal.returns
returns c = bundle_defined c.one_order.ensures.one
