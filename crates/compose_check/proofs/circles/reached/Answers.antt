use Rattle.std.proofs.Common.{◌≡◌, ◌<◌, ◌≤◌, length, ap, sym, ◌∙◌, arith}
use Rattle.compose_agree.specs.Order.{needs_at, needs_of}
use Rattle.compose_check.proofs.CircleLaws.{all_reached, not_shorter, spreads_first, spreads_more}
use Rattle.compose_check.specs.Spread.{with_numbers}
use Rattle.compose_check.proofs.circles.reached.Goals as goal

pub loop-next-init : goal.loop-next-init
loop-next-init c = record {
  seen = c.in_ok-add_new.ensures.seen;
  below = omega arith;
  spreads = spreads_first (needs_of c.args.needs.now) c.args.from c.add_new.new.list.items
      (c.in_ok-add_new.ensures.list ∙ (λ i. with_numbers (c.new-list.ensures.items i) (c.needs_at.ensures i)));
}

pub loop-next-preserved : goal.loop-next-preserved
loop-next-preserved c =
    let needs = needs_of c.args.needs.now in
    let thing = c.index-thing.result.now in
    let old = c.loop-next.list.items in
    let new = c.add_new-in-loop-next.new.list.items in
    let is : new ≡ with_numbers old (needs_at needs thing) = c.in_ok-add_new-2.ensures.list ∙ ap (with_numbers old) c.needs_at-in-loop-next.ensures in
    let below : c.loop-next.next < length old = omega arith in
    let longer = not_shorter old new (needs_at needs thing) is in
    record {
      seen = c.in_ok-add_new-2.ensures.seen;
      below = omega (arith, below, longer);
      spreads = spreads_more needs c.args.from c.loop-next.next old new thing below c.index-thing.ensures is c.loop-next.invariant.spreads;
    }

pub returns : goal.returns
returns c = λ n.
    let past : length c.loop-next.list.items ≤ c.loop-next.next = omega arith in (
      λ there. c.loop-next.invariant.spreads.reached n (sym (c.loop-next.invariant.seen n) ∙ there),
      λ way. c.loop-next.invariant.seen n ∙ all_reached (needs_of c.args.needs.now) c.args.from c.loop-next.next c.loop-next.list.items past c.loop-next.invariant.spreads n way,
    )
