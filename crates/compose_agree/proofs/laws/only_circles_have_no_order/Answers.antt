use Rattle.compose_agree.proofs.OrderLaws.{never_stuck, order_places, place_in}
use Rattle.compose_agree.proofs.laws.only_circles_have_no_order.Goals as goal

pub returns-clause-places : goal.returns-clause-places
returns-clause-places c = λ needs order is. (place_in order, order_places needs order is)

pub returns-clause-circle : goal.returns-clause-circle
returns-clause-circle c = λ needs place n stuck places. never_stuck needs place n places stuck
