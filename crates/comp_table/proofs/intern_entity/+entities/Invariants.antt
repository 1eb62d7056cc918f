use Rattle.std.proofs.Common.{map, take}
use Rattle.comp_table.specs.Rows.{entry_plain}
use Rattle.comp_entity.specs.Views.{entries_of, named_entities}
use Rattle.comp_table.specs.Shown.{AreShown}
use Rattle.comp_table.specs.Trees.{AllStand, Extends}
use Rattle.comp_table.proofs.intern_entity.+entities.Given as goal

abbrev pub invariant-intern_entries-loop-entry : goal.invariant-intern_entries-loop-entry
invariant-intern_entries-loop-entry l = record {
  extends : Extends l.fn.table l.table;
  numbers : AllStand l.table l.numbers.items (map entry_plain (take l.entry-index l.entries));
  shown : AreShown (entries_of (named_entities (take l.entry-index l.entries)));
}
