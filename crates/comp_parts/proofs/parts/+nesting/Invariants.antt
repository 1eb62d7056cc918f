use Rattle.std.proofs.Common.{◌+◌, ◌*◌, List, drop, map}
use Rattle.comp_declare.specs.Outer.{AllShowSpaces, AreSpaces}
use Rattle.comp_declare.specs.Scopes.{IsScope}
use Rattle.comp_format.specs.Items.{item_tree}
use Rattle.comp_parts.proofs.PartLaws.{Reached}
use Rattle.comp_scope.specs.Shape.{Expands, Parts}
use Rattle.comp_scope.specs.Spaces.{Spaces}
use Rattle.comp_table.specs.Trees.{Extends}
use Rattle.comp_parts.proofs.parts.+nesting.Given as goal

abbrev pub decreases-component_within : goal.decreases-component_within
decreases-component_within l = 8 * l.levels + 1

abbrev pub decreases-add_component : goal.decreases-add_component
decreases-add_component l = 8 * l.levels + 2

abbrev pub decreases-add_part : goal.decreases-add_part
decreases-add_part l = 8 * l.levels + 3

abbrev pub decreases-scope_of : goal.decreases-scope_of
decreases-scope_of l = 8 * l.levels + 4

abbrev pub decreases-scope_within : goal.decreases-scope_within
decreases-scope_within l = 8 * l.levels + 5

abbrev pub invariant-scope_of-loop-item : goal.invariant-scope_of-loop-item
invariant-scope_of-loop-item l = record {
  extends : Extends l.fn.table l.table;
  own : IsScope l.table l.scope;
  around : AreSpaces l.table (map (λ s. s.now) l.around);
  found : (ss : List Spaces) (parts : Parts) → AllShowSpaces l.fn.table (map (λ s. s.now) l.around) ss → Expands (map item_tree l.items) parts
      → Reached l.table l.scope ss parts (map item_tree (drop l.item-index l.items));
}
