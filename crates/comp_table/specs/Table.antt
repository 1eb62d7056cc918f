-- A table of trees as it lies in memory: what its nodes stand for, and by what they are found.
use Rattle.std.specs.Prelude.{◌≡◌, ℕ, ◌≤◌, List, [], ◌∷◌, ◌++◌, length, Some, slice_get}
use Rattle.std.specs.BTreeMap.{BTreeMap, get}
use Rattle.std.specs.Cmp.Lexicographic.{slice_cmp}
use Rattle.std.specs.Ordering.{nat_cmp, ordering_then}
use Rattle.std.specs.declared.cmp.Ordering.{Ordering}
use Rattle.comp_table.specs.declared.head.Head.{Head}
use Rattle.comp_table.specs.declared.key.Key.{Key}
use Rattle.comp_table.specs.declared.table.Node.{Node}
use Rattle.comp_table.specs.Heads.{head_code, head_numbers, head_label}
use Rattle.comp_table.specs.Changes.{bare_tree}
use Rattle.comp_table.specs.Facts.{capped, tree_size, tree_depth}
use Rattle.comp_table.specs.Trees.{PlainTree, tree_at, node_tree, IsBelow}

-- the trees of some nodes behind others
abbrev pub trees_from : List PlainTree → List Node → List PlainTree
trees_from ts [] = ts
trees_from ts (n ∷ ns) = trees_from (ts ++ node_tree ts n.head n.parts ∷ []) ns

-- what the numbers of a table stand for, from 0 on
abbrev pub trees : List Node → List PlainTree
trees nodes = trees_from [] nodes

-- that by which a node is found
abbrev pub node_key : Head → List ℕ → Key
node_key h parts = record { kind = head_code h; numbers = head_numbers h; label = head_label h; parts = parts }

abbrev pub key_cmp : Key → Key → Ordering
key_cmp a b =
    ordering_then (nat_cmp a.kind b.kind) (ordering_then (slice_cmp nat_cmp a.numbers b.numbers)
    (ordering_then (slice_cmp nat_cmp a.label b.label) (slice_cmp nat_cmp a.parts b.parts)))

-- a node of this key has this number
pub record IsFound (nodes : List Node) (k : Key) (i : ℕ) : Type 0 where
  pub node : Node
  pub is_there : slice_get nodes i ≡ Some node
  pub is_its_key : node_key node.head node.parts ≡ k

-- a size and a depth are those of a tree, as far as numbers go
pub record IsMeasured (size depth : ℕ) (t : PlainTree) : Type 0 where
  pub size_is : size ≡ capped (tree_size t)
  pub depth_is : depth ≡ capped (tree_depth t)

-- beside each node stand the size and the depth of its tree
abbrev pub AreMeasured : List Node → Type 0
AreMeasured nodes = (i : ℕ) (n : Node) → slice_get nodes i ≡ Some n → IsMeasured n.size n.depth (tree_at (trees nodes) i)

-- A number is that of the bare tree of what another one stands for. It is no larger.
pub record IsBare (ts : List PlainTree) (i b : ℕ) : Type 0 where
  pub within : b ≤ i
  pub bare_is : tree_at ts b ≡ bare_tree (tree_at ts i)

-- the same of a tree that is about to be put behind the others
pub record IsBareOf (ts : List PlainTree) (t : PlainTree) (b : ℕ) : Type 0 where
  pub within : b ≤ length ts
  pub bare_is : tree_at (ts ++ t ∷ []) b ≡ bare_tree t

-- beside each node stands the number of its bare tree
abbrev pub AreBare : List Node → Type 0
AreBare nodes = (i : ℕ) (n : Node) → slice_get nodes i ≡ Some n → IsBare (trees nodes) i n.bare

-- Each node is found by its key, its parts stand in front of it, and its size, its depth and its bare number beside it.
pub record IsTable (nodes : List Node) (numbers : BTreeMap Key ℕ) : Type 0 where
  pub found : (k : Key) (i : ℕ) → get key_cmp numbers k ≡ Some i → IsFound nodes k i
  pub all : (i : ℕ) (n : Node) → slice_get nodes i ≡ Some n → get key_cmp numbers (node_key n.head n.parts) ≡ Some i
  pub below : (i : ℕ) (n : Node) → slice_get nodes i ≡ Some n → IsBelow i n.parts
  pub measured : AreMeasured nodes
  pub bare : AreBare nodes
