use Rattle.std.proofs.Common.{map, take}
use Rattle.comp_table.specs.Rows.{core_value_plain}
use Rattle.comp_table.specs.Trees.{AllStand, Extends}
use Rattle.comp_space.proofs.core_types.core_values.Given as goal

abbrev pub invariant-loop-value : goal.invariant-loop-value
invariant-loop-value l = record {
  extends : Extends l.fn.table l.table;
  numbers : AllStand l.table l.numbers.items (map core_value_plain (take l.value-index l.values));
}
