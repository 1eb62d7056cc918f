-- The tree of a map as it is kept: without the parts in which no key lies.
use Rattle.std.specs.Prelude.{◌≡◌, ◌⊎◌, ℕ, zero, suc, ◌-◌, ◌≤◌, ◌==◌, if◌then◌else◌, List, [], ◌∷◌, length, map, Option, MatchOption, slice_index_or}
use Rattle.warg_proof.specs.declared.leaf.LogLeaf.{LogLeaf}
use Rattle.warg_proof.specs.Leaves.{map_value}
use Rattle.warg_proof.specs.MapTree.{Entries, IsMap, empty_root, has_bit, left_of, right_of, subtree_root, map_root}
use Rattle.warg_prover.specs.declared.subtree.Member.{Member}
use Rattle.warg_prover.specs.declared.subtree.Subtree.{Subtree, Subtree-F, fold-Subtree}
use Rattle.warg_prover.specs.declared.subtree.Subtree.TheOpen as layer
use Rattle.warg_prover.specs.Maps.{map_of}

-- the entries that members are
abbrev pub entries_of : List Member → Entries
entries_of members = map (λ (m : Member). (m.key, map_value m.record_id)) members

-- the roots of empty subtrees, by their heights
pub record AreEmptyRoots (roots : List (List ℕ)) : Type 0 where
  pub count : length roots ≡ 257
  pub each : (height : ℕ) → height ≤ 256 → slice_index_or roots height [] ≡ empty_root height

-- a subtree: one key alone, or the depth at which its keys part, and each side with its root
pub data Tree : Type 0 where
  Only : List ℕ → Tree
  Parted : ℕ → List ℕ → Tree → List ℕ → Tree → Tree

abbrev pub tree_step : Subtree-F Tree → Tree
tree_step (layer.Leaf key) = Only key
tree_step (layer.Split depth left_root left right_root right) = Parted depth left_root left.value right_root right.value

-- a subtree as a tree, wherever it lies in memory
abbrev pub tree_of : Subtree → Tree
tree_of = fold-Subtree Tree tree_step

-- The tree is that of the subtree of a height in which these entries lie. Where all of them lead to one side of a
-- split, it is the tree of that side.
unfoldable pub IsTreeOf : ℕ → Entries → Tree → Type 0
IsTreeOf zero [] tree = ⊥
IsTreeOf zero (entry ∷ entries) (Only key) = key ≡ entry.0
IsTreeOf zero (entry ∷ entries) (Parted depth left_root left right_root right) = ⊥
IsTreeOf (suc height) entries (Only key) =
    ((right_of (255 - height) entries ≡ []) × IsTreeOf height (left_of (255 - height) entries) (Only key))
    ⊎ ((left_of (255 - height) entries ≡ []) × IsTreeOf height (right_of (255 - height) entries) (Only key))
IsTreeOf (suc height) entries (Parted depth left_root left right_root right) =
    ((right_of (255 - height) entries ≡ []) × IsTreeOf height (left_of (255 - height) entries) (Parted depth left_root left right_root right))
    ⊎ (((left_of (255 - height) entries ≡ []) × IsTreeOf height (right_of (255 - height) entries) (Parted depth left_root left right_root right))
    ⊎ ((depth ≡ 255 - height)
    × (left_root ≡ subtree_root height (left_of (255 - height) entries)) × IsTreeOf height (left_of (255 - height) entries) left
    × (right_root ≡ subtree_root height (right_of (255 - height) entries)) × IsTreeOf height (right_of (255 - height) entries) right))

-- what lies beside a key's way and is not empty: each sibling with its depth, from the top down
abbrev pub way_of : Tree → List ℕ → List (ℕ × List ℕ)
way_of (Only only) key = []
way_of (Parted depth left_root left right_root right) key =
    if has_bit key depth then (depth, left_root) ∷ way_of right key else (depth, right_root) ∷ way_of left key

-- the key at the end of a key's way
abbrev pub end_of : Tree → List ℕ → List ℕ
end_of (Only only) key = only
end_of (Parted depth left_root left right_root right) key = if has_bit key depth then end_of right key else end_of left key

-- the siblings in the subtree of a height, from its split down, of which these are not empty
unfoldable pub siblings_by : ℕ → List (ℕ × List ℕ) → List (List ℕ)
siblings_by zero way = []
siblings_by (suc height) [] = empty_root height ∷ siblings_by height []
siblings_by (suc height) (sibling ∷ way) =
    if sibling.0 == 255 - height then sibling.1 ∷ siblings_by height way else empty_root height ∷ siblings_by height (sibling ∷ way)

-- what is kept of the map of these leaves: its root, and its tree, if it has a key
pub record IsKept (leaves : List LogLeaf) (root : List ℕ) (tree : Option Subtree) : Type 0 where
  pub formed : IsMap (map_of leaves)
  pub is_root : root ≡ map_root (map_of leaves)
  pub is_tree : MatchOption tree (map_of leaves ≡ []) (λ t. IsTreeOf 256 (map_of leaves) (tree_of t))
