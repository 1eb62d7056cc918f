use Rattle.std.proofs.Common.{map, take}
use Rattle.comp_table.specs.Rows.{entry_plain}
use Rattle.comp_entity.specs.Views.{entries_of, named_entities}
use Rattle.comp_table.specs.Shown.{AreShown}
use Rattle.comp_table.specs.Trees.{AllStand, Extends}
use Rattle.compose_fit.proofs.numbered.entry_numbers.Given as goal

abbrev pub invariant-loop-entry : goal.invariant-loop-entry
invariant-loop-entry l = record {
  kept : Extends l.fn.table l.table;
  numbers : AllStand l.table l.numbers.items (map entry_plain (take l.entry-index l.entries));
  shown : AreShown (entries_of (named_entities (take l.entry-index l.entries)));
}
