use Rattle.std.proofs.Common.{[], drop, map}
use Rattle.comp_declare.specs.Scopes.{IsScope}
use Rattle.comp_format.specs.Items.{item_tree}
use Rattle.comp_parts.proofs.PartLaws.{Reached, FaultsGoOn}
use Rattle.comp_scope.specs.Shape.{Expands, Parts}
use Rattle.comp_table.specs.Trees.{Extends}
use Rattle.comp_parts.proofs.parts.read_scope.Given as goal

abbrev pub invariant-loop-number : goal.invariant-loop-number
invariant-loop-number l = record {
  extends : Extends l.fn.table l.table;
  own : IsScope l.table l.scope;
  found : (parts : Parts) → Expands (map item_tree l.items) parts
      → (r : Reached l.table l.scope [] parts (map item_tree (drop l.number l.items))) × FaultsGoOn l.number r.known r.rest parts;
}
