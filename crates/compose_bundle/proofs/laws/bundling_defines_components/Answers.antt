use Rattle.compose_bundle.proofs.DefinedLaws.{image_bundled}
use Rattle.compose_bundle.proofs.laws.bundling_defines_components.Goals as goal

pub returns : goal.returns
returns c = image_bundled
