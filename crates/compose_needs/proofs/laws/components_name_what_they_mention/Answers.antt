use Rattle.compose_needs.proofs.ComponentLaws.{holds_is}
use Rattle.compose_needs.proofs.laws.components_name_what_they_mention.Goals as goal

pub returns : goal.returns
returns c = holds_is
