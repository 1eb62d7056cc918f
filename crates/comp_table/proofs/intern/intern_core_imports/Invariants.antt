use Rattle.std.proofs.Common.{map, take}
use Rattle.comp_table.specs.Plain.{plain_import}
use Rattle.comp_table.specs.Trees.{AllStand, Extends}
use Rattle.comp_table.proofs.intern.intern_core_imports.Given as goal

abbrev pub invariant-loop-import : goal.invariant-loop-import
invariant-loop-import l = record {
  extends : Extends l.fn.table l.table;
  numbers : AllStand l.table l.numbers.items (map plain_import (take l.import-index l.imports));
}
