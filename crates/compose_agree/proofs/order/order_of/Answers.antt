use Rattle.compose_agree.specs.Order.{needs_of}
use Rattle.compose_agree.proofs.OrderLaws.{circle_has_no_places}
use Rattle.compose_agree.proofs.order.order_of.Goals as goal

pub returns-clause-circle : goal.returns-clause-circle
returns-clause-circle c = λ n place is places.
    circle_has_no_places (needs_of c.args.needs.now) c.in_ok-order.order n place c.in_ok-order.ensures is places
