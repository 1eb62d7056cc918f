use Rattle.compose_meaning.proofs.ItemLaws.{keeps_items}
use Rattle.compose_meaning.proofs.laws.declarations_are_items.Goals as goal

pub returns : goal.returns
returns c = keeps_items
