use Rattle.compose_encode.proofs.NameLaws.{component_names}
use Rattle.compose_encode.proofs.laws.components_apart_have_own_names.Goals as goal

pub returns : goal.returns
returns c = component_names
