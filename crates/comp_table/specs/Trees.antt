-- Types and entities as trees of one kind: what stands at the root, and the parts. A table is the list of the trees that
-- its numbers stand for, from 0 on.
use Rattle.std.specs.Prelude.{◌≡◌, ℕ, ◌<◌, List, [], ◌∷◌, ◌++◌, map, length, slice_index_or}
use Rattle.std.specs.List.{AllByRecursion}
use Rattle.comp_table.specs.declared.head.Head.{Head}
use Rattle.comp_table.specs.declared.head.Head.TheVariants as head

mutual
  pub data PlainTree : Type 0 where
    tree : Head → PlainTrees → PlainTree

  pub data PlainTrees : Type 0 where
    none : PlainTrees
    more : PlainTree → PlainTrees → PlainTrees

abbrev pub trees_of : List PlainTree → PlainTrees
trees_of [] = none
trees_of (t ∷ ts) = more t (trees_of ts)

abbrev pub root : PlainTree → Head
root (tree head parts) = head

abbrev pub below_root : PlainTree → PlainTrees
below_root (tree head parts) = parts

-- what a number stands for
abbrev pub tree_at : List PlainTree → ℕ → PlainTree
tree_at ts n = slice_index_or ts n (tree head.Absent none)

-- the tree of a head and of parts of these numbers
abbrev pub node_tree : List PlainTree → Head → List ℕ → PlainTree
node_tree ts h parts = tree h (trees_of (map (tree_at ts) parts))

-- each part has a number below this
abbrev pub IsBelow : ℕ → List ℕ → Type 0
IsBelow n parts = AllByRecursion (λ p. p < n) parts

-- a number stands for a tree
pub record Stands (ts : List PlainTree) (n : ℕ) (t : PlainTree) : Type 0 where
  pub there : n < length ts
  pub tree_is : tree_at ts n ≡ t

-- numbers stand for trees, in order
pub record AllStand (ts : List PlainTree) (ns : List ℕ) (us : List PlainTree) : Type 0 where
  pub all_there : IsBelow (length ts) ns
  pub trees_are : map (tree_at ts) ns ≡ us

-- what the numbers given so far stand for is kept
pub record Extends (old new : List PlainTree) : Type 0 where
  pub added : List PlainTree
  pub new_is : new ≡ old ++ added

-- no tree has two numbers
abbrev pub IsOnce : List PlainTree → Type 0
IsOnce ts = (a b : ℕ) → a < length ts → b < length ts → tree_at ts a ≡ tree_at ts b → a ≡ b
