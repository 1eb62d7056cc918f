use Rattle.std.proofs.Common.{rules}
use Rattle.comp_table.specs.declared.head.Head.TheVariants as head
use Rattle.comp_table.specs.Rows.{core_value_plain}
use Rattle.comp_table.specs.StandLaws.{grows_not, grows_on, all_none, all_step, all_end, number_of_same, node_is}
use Rattle.comp_space.proofs.core_types.core_values.Goals as goal

pub loop-value-init : goal.loop-value-init
loop-value-init c = record { extends = grows_not _; numbers = rw c.new-numbers.ensures.items (all_none _) }

pub loop-value-preserved : goal.loop-value-preserved
loop-value-preserved c =
    let grown = c.leaf.ensures.extends in
    record {
      extends = grows_on _ _ _ c.loop-value.invariant.extends grown;
      numbers = all_step core_value_plain c.args.values.now c.loop-value.table c.leaf.new.table c.loop-value.value-index _ c.loop-value.numbers.items c.push.new.self.items c.in_ok-number.number (search rules) grown c.loop-value.invariant.numbers
          c.in_ok-number.ensures.number c.in_ok-push.ensures.items;
    }

pub returns-clause-number : goal.returns-clause-number
returns-clause-number c =
    number_of_same c.node.result c.node.new.table _ _
    (node_is c.loop-value.table head.Entries c.loop-value.numbers.items _ (all_end core_value_plain c.args.values.now c.loop-value.table c.loop-value.numbers.items (search (rules, c.loop-value.invariant.numbers))))
    c.node.ensures.number
