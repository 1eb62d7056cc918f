use Rattle.comp_format.specs.DepthLaws.{component_at_most}
use Rattle.comp_format.proofs.laws.more_scopes_read_alike.Goals as goal

pub returns : goal.returns
returns c = λ scopes more le bytes. component_at_most scopes more le bytes
