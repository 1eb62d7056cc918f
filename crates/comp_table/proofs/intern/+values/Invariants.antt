use Rattle.std.proofs.Common.{map, take}
use Rattle.comp_table.specs.Rows.{value_plain, field_plain, case_plain}
use Rattle.comp_table.specs.Trees.{AllStand, Extends}
use Rattle.comp_table.proofs.intern.+values.Given as goal

abbrev pub invariant-intern_values-loop-value : goal.invariant-intern_values-loop-value
invariant-intern_values-loop-value l = record {
  extends : Extends l.fn.table l.table;
  numbers : AllStand l.table l.numbers.items (map value_plain (take l.value-index l.values));
}

abbrev pub invariant-intern_fields-loop-field : goal.invariant-intern_fields-loop-field
invariant-intern_fields-loop-field l = record {
  extends : Extends l.fn.table l.table;
  numbers : AllStand l.table l.numbers.items (map field_plain (take l.field-index l.fields));
}

abbrev pub invariant-intern_cases-loop-case : goal.invariant-intern_cases-loop-case
invariant-intern_cases-loop-case l = record {
  extends : Extends l.fn.table l.table;
  numbers : AllStand l.table l.numbers.items (map case_plain (take l.case-index l.cases));
}
