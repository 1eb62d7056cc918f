-- Trees of texts.
use Rattle.std.specs.Prelude.{ℕ, List, [], ◌∷◌}
use Rattle.warg_names.specs.declared.tree.TreeBuilder.{TreeBuilder, fold-TreeBuilder}
use Rattle.warg_names.specs.declared.tree.TreeBuilder.TheOpen.{TreeBuilder-F}

mutual
  -- a node: its text, and the nodes below it
  pub data TextTree : Type 0 where
    Node : List ℕ → TextTrees → TextTree

  -- nodes, in order
  pub data TextTrees : Type 0 where
    none : TextTrees
    more : TextTree → TextTrees → TextTrees

abbrev pub trees_of : List TextTree → TextTrees
trees_of [] = none
trees_of (tree ∷ trees) = more tree (trees_of trees)

abbrev pub tree_step : TreeBuilder-F TextTree → TextTree
tree_step node = Node node.text (trees_of node.children.items)

abbrev pub tree_view : TreeBuilder → TextTree
tree_view = fold-TreeBuilder TextTree tree_step
