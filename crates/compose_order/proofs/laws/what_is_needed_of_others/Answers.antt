use Rattle.compose_order.proofs.BroughtLaws.{needs_is}
use Rattle.compose_order.proofs.laws.what_is_needed_of_others.Goals as goal

pub returns : goal.returns
returns c = needs_is
