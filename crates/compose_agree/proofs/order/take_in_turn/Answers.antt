use Rattle.std.proofs.Common.{◌++◌, ◌<◌, [], length, refl, sym, subst}
use Rattle.std.proofs.lemmas.List.{append-nil}
use Rattle.std.specs.Prelude.{MatchOption}
use Rattle.compose_agree.specs.Order.{Takes, all_of, is_ready, needs_of}
use Rattle.compose_agree.specs.Turns.{AreTurns, IsFirst, NoneReady, left_of}
use Rattle.compose_agree.proofs.LeftLaws.{cut, front_idle, nothing_taken, smaller, takes_more}
use Rattle.compose_agree.proofs.order.take_in_turn.Goals as goal

pub loop-order-init : goal.loop-order-init
loop-order-init c =
    let needs = needs_of c.args.needs.now in
    record {
      turns = subst (λ done. AreTurns needs done [] c.args.turns.now) (sym c.new-order.ensures.items) c.requires;
      takes = λ xs rest takes.
          let from = subst (λ done. Takes (is_ready needs) done (left_of done (length needs)) xs rest) c.new-order.ensures.items takes in
          subst (λ done. Takes (is_ready needs) [] (all_of needs) (done ++ xs) rest) (sym c.new-order.ensures.items)
          (subst (λ left. Takes (is_ready needs) [] left xs rest) (nothing_taken (length needs)) from);
    }

pub loop-order-smaller : goal.loop-order-smaller
loop-order-smaller c =
    let needs = needs_of c.args.needs.now in
    let done = c.loop-order.order.items in
    let first = subst (λ o. MatchOption o (NoneReady needs done c.take_first.new.turns) (IsFirst needs done c.take_first.new.turns)) c.in-Some.is (c.in_ok-number.ensures done c.loop-order.invariant.turns) in
    subst (λ ds. length (left_of ds (length needs)) < length (left_of done (length needs))) (sym c.in_ok-push.ensures.items)
    (smaller done (length needs) c.in-Some.number (cut done (length needs) c.in-Some.number first.is.there first.is.left))

pub loop-order-preserved : goal.loop-order-preserved
loop-order-preserved c =
    let needs = needs_of c.args.needs.now in
    let done = c.loop-order.order.items in
    let first = subst (λ o. MatchOption o (NoneReady needs done c.take_first.new.turns) (IsFirst needs done c.take_first.new.turns)) c.in-Some.is (c.in_ok-number.ensures done c.loop-order.invariant.turns) in
    let one = cut done (length needs) c.in-Some.number first.is.there first.is.left in
    record {
      turns = subst (λ ds. AreTurns needs ds [] c.take_first.new.turns) (sym c.in_ok-push.ensures.items) first.turns;
      takes = λ xs rest takes.
          subst (λ ds. Takes (is_ready needs) [] (all_of needs) (ds ++ xs) rest) (sym c.in_ok-push.ensures.items)
          (takes_more (is_ready needs) (all_of needs) done (length needs) c.in-Some.number one
          (front_idle (is_ready needs done) done one.front c.in-Some.number first.first one.below) first.is.met c.loop-order.invariant.takes xs rest
          (subst (λ ds. Takes (is_ready needs) ds (left_of ds (length needs)) xs rest) c.in_ok-push.ensures.items takes));
    }

pub returns-clause-takes : goal.returns-clause-takes
returns-clause-takes c =
    let needs = needs_of c.args.needs.now in
    subst (λ ys. Takes (is_ready needs) [] (all_of needs) ys (left_of c.loop-order.order.items (length needs))) (append-nil c.loop-order.order.items)
    (c.loop-order.invariant.takes [] (left_of c.loop-order.order.items (length needs)) refl)
