use Rattle.std.proofs.Common.{rules, ◌≡◌, ◌+◌, ◌++◌, ◌∷◌, [], drop, length, map, ap, sym, ◌∙◌}
use Rattle.compose_order.specs.Known.{left_tree}
use Rattle.compose_order.proofs.OrderLaws.{each_held, held_less, held_next, not_gone, once_next, there_less, turn_more}
use Rattle.compose_order.proofs.order.in_turn.Goals as goal

pub loop-number-preserved : goal.loop-number-preserved
loop-number-preserved c =
    let pushed : c.push.new.self.items ≡ c.loop-number.out.items ++ c.in-Some.import ∷ [] = search rules in
    record {
      there = there_less c.loop-number.slots c.remove.new.self (map left_tree c.args.lefts.items) _ c.loop-number.invariant.there c.remove.ensures.updates;
      out = turn_more (map left_tree c.args.lefts.items) c.args.order.now c.loop-number.number-index _ c.loop-number.out.items c.push.new.self.items c.in-Some.import c.loop-number-test.true c.loop-number.invariant.out pushed
          (c.loop-number.invariant.there _ c.in-Some.import (sym c.remove.ensures.value ∙ c.in-Some.is));
      held = held_less c.loop-number.slots c.remove.new.self _ (drop (c.loop-number.number-index + 1) c.args.order.now) c.remove.ensures.updates
          (once_next c.args.order.now c.loop-number.number-index _ c.loop-number-test.true c.loop-number.invariant.once).0
          (held_next c.loop-number.slots c.args.order.now c.loop-number.number-index 0 c.loop-number-test.true c.loop-number.invariant.held).1;
      once = (once_next c.args.order.now c.loop-number.number-index 0 c.loop-number-test.true c.loop-number.invariant.once).1;
    }

pub loop-number-init : goal.loop-number-init
loop-number-init c = record {
  there = c.in_ok-slots.ensures.there;
  out = ap (map left_tree) c.new-out.ensures.items;
  held = each_held c.in_ok-slots.slots (length c.args.lefts.items) c.args.order.now c.in_ok-slots.ensures.all c.requires.below;
  once = c.requires.once;
}

pub unreachable-requires : goal.unreachable-requires
unreachable-requires c =
    let next = held_next c.loop-number.slots c.args.order.now c.loop-number.number-index _ c.loop-number-test.true c.loop-number.invariant.held in
    not_gone c.loop-number.slots _ next.0 (sym c.remove.ensures.value ∙ c.in_default.is)
