use Rattle.compose_complete.proofs.RefusedLaws.{unwritten}
use Rattle.compose_complete.proofs.laws.what_can_be_encoded_is_refused_for_its_numbers.Goals as goal

pub returns : goal.returns
returns c = λ composition define export order lefts e made can refused.
    unwritten c.what_can_be_written_is_not_refused.ensures c.a_sound_composition_has_one_order.ensures.order c.a_sound_composition_has_one_order.ensures.lefts
    composition made define export order lefts can e refused
