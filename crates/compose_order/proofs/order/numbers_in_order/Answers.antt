use Rattle.std.proofs.Common.{◌≡◌, ◌<◌, map, length, sym, ap, subst, ◌∙◌, refl}
use Rattle.std.specs.Prelude.{MatchOption}
use Rattle.compose_agree.specs.Order.{IsOrder, IsStuck, Ordered, all_of, is_ready, needs_of}
use Rattle.compose_order.specs.Agreed.{AllBrought, IsFirstUnbrought, IsNamedAt}
use Rattle.compose_order.specs.Known.{AreNumbers, known_left, left_tree}
use Rattle.compose_needs.specs.Lefts.{lefts_of}
use Rattle.compose_order.proofs.ListLaws.{length-of-mapped}
use Rattle.compose_order.proofs.OrderLaws.{length-needs, order_numbers, stuck_below}
use Rattle.compose_order.proofs.order.numbers_in_order.Goals as goal

pub returns-in-Some-clause-unbrought : goal.returns-in-Some-clause-unbrought
returns-in-Some-clause-unbrought c = λ w o n e.
    let same : c.in_ok-name-in-Some.name ≡ n = cc in
    record {
      number = c.in-Some.number;
      first = subst (λ f. MatchOption f (AllBrought (lefts_of w) (map left_tree c.args.lefts.now)) (IsFirstUnbrought (lefts_of w) (map left_tree c.args.lefts.now))) c.in-Some.is (c.in_ok-number.ensures.first w (map left_tree c.args.lefts.now) o c.in_ok-all.ensures);
      named = subst (λ m. IsNamedAt (map left_tree c.args.lefts.now) c.in-Some.number m) same c.in_ok-name-in-Some.ensures;
    }

pub returns-in-Whole-clause-order : goal.returns-in-Whole-clause-order
returns-in-Whole-clause-order c = λ w o. record {
  brought = subst (λ f. MatchOption f (AllBrought (lefts_of w) (map left_tree c.args.lefts.now)) (IsFirstUnbrought (lefts_of w) (map left_tree c.args.lefts.now))) c.in-None.is (c.in_ok-number.ensures.first w (map left_tree c.args.lefts.now) o c.in_ok-all.ensures);
  in_order = subst (λ ns. IsOrder (is_ready ns) (all_of ns) c.in-Whole.order.items) (ap needs_of c.deref.ensures.value ∙ c.in_ok-needs-in-None.ensures.needs w (map left_tree c.args.lefts.now) o c.in_ok-all.ensures)
      (subst (λ x. Ordered (is_ready (needs_of c.deref.result.now)) (all_of (needs_of c.deref.result.now)) x) c.in-Whole.is c.in_ok-order-in-None.ensures.order);
}

pub returns-clause-circle : goal.returns-clause-circle
returns-clause-circle c = λ w o n e.
    let same : c.in_ok-name-in-Circle.name ≡ n = cc in
    record {
      brought = subst (λ f. MatchOption f (AllBrought (lefts_of w) (map left_tree c.args.lefts.now)) (IsFirstUnbrought (lefts_of w) (map left_tree c.args.lefts.now))) c.in-None.is (c.in_ok-number.ensures.first w (map left_tree c.args.lefts.now) o c.in_ok-all.ensures);
      number = c.in-Circle.number;
      stuck = subst (λ ns. IsStuck (is_ready ns) (all_of ns) c.in-Circle.number) (ap needs_of c.deref.ensures.value ∙ c.in_ok-needs-in-None.ensures.needs w (map left_tree c.args.lefts.now) o c.in_ok-all.ensures)
          (subst (λ x. Ordered (is_ready (needs_of c.deref.result.now)) (all_of (needs_of c.deref.result.now)) x) c.in-Circle.is c.in_ok-order-in-None.ensures.order);
      named = subst (λ m. IsNamedAt (map left_tree c.args.lefts.now) c.in-Circle.number m) same c.in_ok-name-in-Circle.ensures;
    }

pub name_at-requires-in-Circle : goal.name_at-requires-in-Circle
name_at-requires-in-Circle c =
    subst (λ k. c.in-Circle.number < k)
    (length-needs c.deref.result.now ∙ ap length c.deref.ensures.value ∙ c.in_ok-needs-in-None.ensures.count ∙ length-of-mapped known_left c.in_ok-all.all.list.items (map left_tree c.args.lefts.now) c.in_ok-all.ensures.lefts ∙ sym (length-of-mapped left_tree c.args.lefts.now (map left_tree c.args.lefts.now) refl))
    (stuck_below (needs_of c.deref.result.now) c.in-Circle.number (subst (λ x. Ordered (is_ready (needs_of c.deref.result.now)) (all_of (needs_of c.deref.result.now)) x) c.in-Circle.is c.in_ok-order-in-None.ensures.order))

pub returns-in-Whole-clause-numbers : goal.returns-in-Whole-clause-numbers
returns-in-Whole-clause-numbers c =
    subst (λ k. AreNumbers k c.in-Whole.order.items)
    (length-needs c.deref.result.now ∙ ap length c.deref.ensures.value ∙ c.in_ok-needs-in-None.ensures.count ∙ length-of-mapped known_left c.in_ok-all.all.list.items (map left_tree c.args.lefts.now) c.in_ok-all.ensures.lefts ∙ sym (length-of-mapped left_tree c.args.lefts.now (map left_tree c.args.lefts.now) refl))
    (order_numbers (needs_of c.deref.result.now) c.in-Whole.order.items (subst (λ x. Ordered (is_ready (needs_of c.deref.result.now)) (all_of (needs_of c.deref.result.now)) x) c.in-Whole.is c.in_ok-order-in-None.ensures.order))
