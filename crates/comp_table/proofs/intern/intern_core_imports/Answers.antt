use Rattle.std.proofs.Common.{rules, ap, ◌∙◌}
use Rattle.comp_table.specs.declared.head.Head.TheVariants as head
use Rattle.comp_table.specs.Plain.{under_label}
use Rattle.comp_table.specs.Plain.{plain_import}
use Rattle.comp_table.specs.StandLaws.{grows_not, grows_on, all_none, all_step, all_end, number_of_same, same_stands, node_is}
use Rattle.comp_table.proofs.intern.intern_core_imports.Goals as goal

pub loop-import-init : goal.loop-import-init
loop-import-init c = record { extends = grows_not _; numbers = rw c.new-numbers.ensures.items (all_none _) }

pub loop-import-preserved : goal.loop-import-preserved
loop-import-preserved c =
    let grown = grows_on _ _ _ c.intern_core.ensures.extends (grows_on _ _ _ c.under.ensures.extends c.under-in-loop-import.ensures.extends) in
    record {
      extends = grows_on _ _ _ c.loop-import.invariant.extends grown;
      numbers = all_step plain_import c.args.imports.now c.loop-import.table c.under-in-loop-import.new.table c.loop-import.import-index c.import-item.result c.loop-import.numbers.items c.push.new.self.items c.in_ok-number.number (search rules) grown c.loop-import.invariant.numbers
          (same_stands c.under-in-loop-import.new.table c.in_ok-number.number _ _ ((λ i. under_label c.import-item.result.0 (c.in_ok-named.ensures.number.tree_is i)) ∙ (λ i. under_label c.import-item.result.0 (under_label c.import-item.result.1 (c.in_ok-core.ensures.number.tree_is i))) ∙ ap plain_import c.import-item.is) c.in_ok-number.ensures.number) c.in_ok-push.ensures.items;
    }

pub returns-clause-number : goal.returns-clause-number
returns-clause-number c =
    number_of_same c.node.result c.node.new.table _ _
    (node_is c.loop-import.table head.Entries c.loop-import.numbers.items _ (all_end plain_import c.args.imports.now c.loop-import.table c.loop-import.numbers.items (search (rules, c.loop-import.invariant.numbers))))
    c.node.ensures.number

pub returns-in_err-number-clause-extends : goal.returns-in_err-number-clause-extends
returns-in_err-number-clause-extends c = grows_on _ _ _ c.loop-import.invariant.extends (grows_on _ _ _ c.intern_core.ensures.extends (grows_on _ _ _ c.under.ensures.extends c.under-in-loop-import.ensures.extends))

pub returns-in_err-push-clause-extends : goal.returns-in_err-push-clause-extends
returns-in_err-push-clause-extends c = grows_on _ _ _ c.loop-import.invariant.extends (grows_on _ _ _ c.intern_core.ensures.extends (grows_on _ _ _ c.under.ensures.extends c.under-in-loop-import.ensures.extends))

pub returns-in_err-named-clause-extends : goal.returns-in_err-named-clause-extends
returns-in_err-named-clause-extends c = grows_on _ _ _ c.loop-import.invariant.extends (grows_on _ _ _ c.intern_core.ensures.extends c.under.ensures.extends)
