use Rattle.std.proofs.Common.{length, take}
use Rattle.comp_scope.specs.Spaces.{Spaces}
use Rattle.comp_space.specs.Faults.{Found}
use Rattle.comp_space.specs.Standings.{AllShow}
use Rattle.comp_space.specs.Rows.{ShowsRows, all_of, case_of, plain_case}
use Rattle.comp_table.specs.Trees.{Extends, IsBelow}
use Rattle.comp_space.proofs.parts.cases_of.Given as goal

abbrev pub invariant-loop-case : goal.invariant-loop-case
invariant-loop-case l = record {
  extends : Extends l.fn.table l.table;
  there : IsBelow (length l.table) l.numbers.items;
  found : (s : Spaces) → AllShow l.fn.table l.types s.types
      → Found (ShowsRows plain_case l.table) (record { numbers = l.numbers; named = l.named }) (all_of (case_of s) (take l.case-index l.cases));
}
