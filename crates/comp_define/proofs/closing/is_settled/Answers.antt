use Rattle.std.proofs.Common.{subst}
use Rattle.comp_define.specs.Orders.{AreInOrder}
use Rattle.comp_define.proofs.closing.is_settled.Goals as goal

pub returns : goal.returns
returns c = λ s is settled.
    c.what_stands_in_order_stays.ensures s (subst AreInOrder is.resources (c.is_in_order.ensures c.if-not-is_in_order.false)) (subst AreInOrder is.places (c.is_in_order-2.ensures settled))
