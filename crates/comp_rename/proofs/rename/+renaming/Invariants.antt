use Rattle.std.proofs.Common.{◌+◌, ◌*◌, map, take}
use Rattle.comp_entity.specs.Names.{changing}
use Rattle.comp_rename.specs.Known.{IsKnown}
use Rattle.comp_table.specs.Changes.{tree_by}
use Rattle.comp_table.specs.Trees.{AllStand, Extends, tree_at}
use Rattle.comp_rename.proofs.rename.+renaming.Given as goal

abbrev pub decreases-rename : goal.decreases-rename
decreases-rename g l = 2 * l.levels

abbrev pub decreases-rename_parts : goal.decreases-rename_parts
decreases-rename_parts g l = 2 * l.levels + 1

abbrev pub invariant-rename_parts-loop-part : goal.invariant-rename_parts-loop-part
invariant-rename_parts-loop-part g l = record {
  extends : Extends l.fn.table l.table;
  known : IsKnown (changing (g.R.Renaming.resources l.renaming) (g.R.Renaming.places l.renaming)) l.table l.known;
  numbers : AllStand l.table l.numbers.items
      (map (λ p. tree_by (changing (g.R.Renaming.resources l.renaming) (g.R.Renaming.places l.renaming)) l.depth (tree_at l.fn.table p)) (take l.part-index l.parts));
}
