use Rattle.compose_agree.specs.Order.{all_of, is_ready}
use Rattle.compose_order.specs.Agreed.{all_needs}
use Rattle.compose_order.proofs.OutcomeLaws.{no_case_clash, none_unbrought}
use Rattle.compose_order.proofs.laws.outcomes_exclude_each_other.Goals as goal

pub returns-clause-clash : goal.returns-clause-clash
returns-clause-clash c = no_case_clash

pub returns-clause-unbrought : goal.returns-clause-unbrought
returns-clause-unbrought c = none_unbrought

pub returns-clause-circle : goal.returns-clause-circle
returns-clause-circle c = λ left ls out n a b. c.one_order.ensures.none (is_ready (all_needs left ls)) (all_of (all_needs left ls)) a.order b.number a.numbered.in_order b.stuck
