use Rattle.compose_order.proofs.BroughtLaws.{brought_is}
use Rattle.compose_order.proofs.laws.what_is_mentioned_is_brought.Goals as goal

pub returns : goal.returns
returns c = brought_is c.what_is_mentioned_is_named.ensures c.components_name_what_they_mention.ensures
