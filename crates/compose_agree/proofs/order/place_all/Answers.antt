use Rattle.std.proofs.Common.{◌≡◌, [], ◌∷◌, ◌∙◌, ap, subst, length, false}
use Rattle.std.specs.List.{AllByRecursion}
use Rattle.compose_agree.specs.Order.{Takes, all_of, is_ready, needs_of}
use Rattle.compose_agree.specs.Turns.{left_of}
use Rattle.compose_agree.proofs.LeftLaws.{idle_left}
use Rattle.compose_agree.proofs.TurnLaws.{length_needs}
use Rattle.compose_agree.proofs.order.place_all.Goals as goal

pub returns-in-Some : goal.returns-in-Some
returns-in-Some c =
    let needs = needs_of c.args.needs.now in
    let order = c.in_ok-order.order.items in
    let none = c.in_ok-order.ensures.none in
    let first = c.in-Some.ensures order none.turns.taken in
    let left : left_of order (length needs) ≡ c.in-Some.number ∷ first.rest = ap (left_of order) (length_needs c.args.needs.now) ∙ first.is in
    record {
      taken = order;
      rest = first.rest;
      takes = subst (λ ls. Takes (is_ready needs) [] (all_of needs) order ls) left c.in_ok-order.ensures.takes;
      none = subst (AllByRecursion (λ y. is_ready needs order y ≡ false)) left (idle_left (is_ready needs order) order (length needs) none.idle);
    }
