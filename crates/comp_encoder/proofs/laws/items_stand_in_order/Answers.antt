use Rattle.comp_encoder.proofs.CountLaws.{items_append}
use Rattle.comp_encoder.proofs.laws.items_stand_in_order.Goals as goal

pub returns : goal.returns
returns c = λ front back. items_append front back
