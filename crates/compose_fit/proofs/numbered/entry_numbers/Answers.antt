use Rattle.std.proofs.Common.{rules, ap, ◌∙◌, true}
use Rattle.comp_table.specs.declared.head.Head.TheVariants as head
use Rattle.comp_table.specs.Plain.{around}
use Rattle.comp_table.specs.Rows.{entry_plain}
use Rattle.comp_table.specs.StandLaws.{grows_not, grows_on, all_none, all_step, same_stands}
use Rattle.compose_fit.proofs.RowLaws.{shown_step, shown_end}
use Rattle.compose_fit.proofs.numbered.entry_numbers.Goals as goal

pub loop-entry-init : goal.loop-entry-init
loop-entry-init c = record { kept = grows_not _; numbers = rw c.new-numbers.ensures.items (all_none _); shown = tt }

pub loop-entry-preserved : goal.loop-entry-preserved
loop-entry-preserved c =
    let grown = grows_on _ _ _ c.in_ok-part.ensures.kept c.in_ok-number.ensures.kept in
    record {
      kept = grows_on _ _ _ c.loop-entry.invariant.kept grown;
      numbers = all_step entry_plain c.args.entries.now c.loop-entry.table c.named_number.new.table c.loop-entry.entry-index c.entry-item.result c.loop-entry.numbers.items c.push.new.self.items c.in_ok-number.number (search rules) grown c.loop-entry.invariant.numbers
          (same_stands c.named_number.new.table c.in_ok-number.number _ _ ((λ i. around (head.Entry true c.entry-item.result.0) (c.in_ok-part.ensures.number.tree_is i)) ∙ ap entry_plain c.entry-item.is) c.in_ok-number.ensures.number) c.in_ok-push.ensures.items;
      shown = shown_step c.args.entries.now c.loop-entry.entry-index c.entry-item.result (search rules) c.entry-item.is c.loop-entry.invariant.shown c.in_ok-part.ensures.shown;
    }

pub returns-clause-shown : goal.returns-clause-shown
returns-clause-shown c = shown_end c.args.entries.now (search (rules, c.loop-entry.invariant.shown))
