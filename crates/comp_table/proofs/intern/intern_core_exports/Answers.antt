use Rattle.std.proofs.Common.{rules, ap, ◌∙◌}
use Rattle.comp_table.specs.declared.head.Head.TheVariants as head
use Rattle.comp_table.specs.Plain.{under_label}
use Rattle.comp_table.specs.Plain.{plain_export}
use Rattle.comp_table.specs.StandLaws.{grows_not, grows_on, all_none, all_step, all_end, number_of_same, same_stands, node_is}
use Rattle.comp_table.proofs.intern.intern_core_exports.Goals as goal

pub loop-export-init : goal.loop-export-init
loop-export-init c = record { extends = grows_not _; numbers = rw c.new-numbers.ensures.items (all_none _) }

pub loop-export-preserved : goal.loop-export-preserved
loop-export-preserved c =
    let grown = grows_on _ _ _ c.intern_core.ensures.extends c.under.ensures.extends in
    record {
      extends = grows_on _ _ _ c.loop-export.invariant.extends grown;
      numbers = all_step plain_export c.args.exports.now c.loop-export.table c.under.new.table c.loop-export.export-index c.export-item.result c.loop-export.numbers.items c.push.new.self.items c.in_ok-number.number (search rules) grown c.loop-export.invariant.numbers
          (same_stands c.under.new.table c.in_ok-number.number _ _ (ap (under_label c.export-item.result.0) c.in_ok-core.ensures.number.tree_is ∙ ap plain_export c.export-item.is) c.in_ok-number.ensures.number) c.in_ok-push.ensures.items;
    }

pub returns-clause-number : goal.returns-clause-number
returns-clause-number c =
    number_of_same c.node.result c.node.new.table _ _
    (node_is c.loop-export.table head.Entries c.loop-export.numbers.items _ (all_end plain_export c.args.exports.now c.loop-export.table c.loop-export.numbers.items (search (rules, c.loop-export.invariant.numbers))))
    c.node.ensures.number

pub returns-in_err-number-clause-extends : goal.returns-in_err-number-clause-extends
returns-in_err-number-clause-extends c = grows_on _ _ _ c.loop-export.invariant.extends (grows_on _ _ _ c.intern_core.ensures.extends c.under.ensures.extends)

pub returns-in_err-push-clause-extends : goal.returns-in_err-push-clause-extends
returns-in_err-push-clause-extends c = grows_on _ _ _ c.loop-export.invariant.extends (grows_on _ _ _ c.intern_core.ensures.extends c.under.ensures.extends)
