use Rattle.std.proofs.Common.{map, take}
use Rattle.comp_table.specs.Changes.{bare_tree}
use Rattle.comp_table.specs.Table.{trees}
use Rattle.comp_table.specs.Trees.{AllStand, tree_at}
use Rattle.comp_table.proofs.table.are_bare.Given as goal

abbrev pub invariant-loop-part : goal.invariant-loop-part
invariant-loop-part l =
    AllStand (trees l.nodes) (take l.part-index l.parts) (map (λ p. bare_tree (tree_at (trees l.nodes) p)) (take l.part-index l.parts))
