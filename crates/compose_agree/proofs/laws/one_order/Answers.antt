use Rattle.compose_agree.proofs.OrderLaws.{one_order, not_stuck, one_stuck}
use Rattle.compose_agree.proofs.laws.one_order.Goals as goal

pub returns-clause-one : goal.returns-clause-one
returns-clause-one c = one_order

pub returns-clause-none : goal.returns-clause-none
returns-clause-none c = not_stuck

pub returns-clause-stuck : goal.returns-clause-stuck
returns-clause-stuck c = one_stuck
