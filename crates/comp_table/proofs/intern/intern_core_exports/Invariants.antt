use Rattle.std.proofs.Common.{map, take}
use Rattle.comp_table.specs.Plain.{plain_export}
use Rattle.comp_table.specs.Trees.{AllStand, Extends}
use Rattle.comp_table.proofs.intern.intern_core_exports.Given as goal

abbrev pub invariant-loop-export : goal.invariant-loop-export
invariant-loop-export l = record {
  extends : Extends l.fn.table l.table;
  numbers : AllStand l.table l.numbers.items (map plain_export (take l.export-index l.exports));
}
