use Rattle.compose_order.proofs.OutcomeLaws.{one_case_clash, one_ordered, one_unbrought, one_without_place}
use Rattle.compose_order.proofs.laws.outcomes_are_one.Goals as goal

pub returns-clause-ordered : goal.returns-clause-ordered
returns-clause-ordered c = one_ordered c.one_order.ensures.one

pub returns-clause-clash : goal.returns-clause-clash
returns-clause-clash c = one_case_clash c.one_first_clash.ensures

pub returns-clause-unbrought : goal.returns-clause-unbrought
returns-clause-unbrought c = one_unbrought

pub returns-clause-circle : goal.returns-clause-circle
returns-clause-circle c = one_without_place c.one_order.ensures.stuck
