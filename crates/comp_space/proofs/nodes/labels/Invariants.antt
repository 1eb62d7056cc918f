use Rattle.std.proofs.Common.{map, take}
use Rattle.comp_table.specs.Rows.{label_plain}
use Rattle.comp_table.specs.Trees.{AllStand, Extends}
use Rattle.comp_space.proofs.nodes.labels.Given as goal

abbrev pub invariant-loop-label : goal.invariant-loop-label
invariant-loop-label l = record {
  extends : Extends l.fn.table l.table;
  numbers : AllStand l.table l.numbers.items (map label_plain (take l.label-index l.labels));
}
