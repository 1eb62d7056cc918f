use Rattle.std.proofs.Common.{rules, ap, ◌∙◌}
use Rattle.comp_table.specs.Rows.{label_plain}
use Rattle.comp_table.specs.StandLaws.{grows_not, grows_on, all_none, all_step, same_stands}
use Rattle.comp_space.proofs.nodes.labels.Goals as goal

pub loop-label-init : goal.loop-label-init
loop-label-init c = record { extends = grows_not _; numbers = rw c.new-numbers.ensures.items (all_none _) }

pub loop-label-preserved : goal.loop-label-preserved
loop-label-preserved c = record {
  extends = grows_on _ _ _ c.loop-label.invariant.extends c.leaf.ensures.extends;
  numbers = all_step label_plain c.args.labels.now c.loop-label.table c.leaf.new.table c.loop-label.label-index c.label-item.result c.loop-label.numbers.items c.push.new.self.items c.in_ok-number.number (search rules) c.leaf.ensures.extends c.loop-label.invariant.numbers
      (same_stands c.leaf.new.table c.in_ok-number.number _ _ (ap label_plain (c.in_ok-label.ensures ∙ c.label-item.is)) c.in_ok-number.ensures.number) c.in_ok-push.ensures.items;
}
