use Rattle.compose_complete.proofs.RefusedLaws.{one_agreement, one_order_of}
use Rattle.compose_complete.proofs.laws.a_sound_composition_has_one_order.Goals as goal

pub returns-clause-order : goal.returns-clause-order
returns-clause-order c = one_order_of c.one_order.ensures.one

pub returns-clause-lefts : goal.returns-clause-lefts
returns-clause-lefts c = one_agreement c.outcomes_are_one.ensures.ordered
