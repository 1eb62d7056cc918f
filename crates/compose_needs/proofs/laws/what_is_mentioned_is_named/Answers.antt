use Rattle.compose_needs.proofs.TiedLaws.{tied_is}
use Rattle.compose_needs.proofs.laws.what_is_mentioned_is_named.Goals as goal

pub returns : goal.returns
returns c = tied_is
