use Rattle.std.proofs.Common.{drop}
use Rattle.comp_instance.proofs.ItemLaws.{IsSoFar}
use Rattle.comp_scope.specs.Spaces.{Spaces}
use Rattle.comp_space.specs.SpaceViews.{ShowsSpaces}
use Rattle.comp_table.specs.Trees.{Extends}
use Rattle.comp_instance.proofs.items.items_of.Given as goal

abbrev pub invariant-loop-arg : goal.invariant-loop-arg
invariant-loop-arg l = record {
  extends : Extends l.fn.table l.table;
  found : (s : Spaces) → ShowsSpaces l.fn.table l.space s → IsSoFar l.table (record { numbers = l.numbers; named = l.named }) s l.args (drop l.arg-index l.args);
}
