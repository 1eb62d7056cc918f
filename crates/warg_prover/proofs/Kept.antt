-- What the tree that is kept of a map answers for a key.
use Rattle.std.proofs.Common.{◌≡◌, ℕ, ◌<◌, List, length, map, Option, Some, None, refl, sym, ap, subst, ◌∙◌, arith}
use Rattle.std.specs.Prelude.{IsSome}
use Rattle.std.specs.List.{All}
use Rattle.std.proofs.lemmas.List.{length-map}
use Rattle.std.proofs.lemmas.List.Elements.{recursion_from_All}
use Rattle.warg_hash.specs.Hash.{IsDigest}
use Rattle.warg_proof.specs.declared.leaf.LogLeaf.{LogLeaf}
use Rattle.warg_proof.specs.MapTree.{Entries, IsMap, value_at, has_bit}
use Rattle.warg_proof.specs.MapProofs.{MapPath, IsMapPath, path_of, siblings}
use Rattle.warg_proof.specs.TrueProofs.{true_siblings}
use Rattle.warg_prover.specs.declared.subtree.Subtree.{Subtree}
use Rattle.warg_prover.specs.Maps.{map_of}
use Rattle.warg_prover.specs.Subtrees.{IsKept, tree_of, way_of, end_of}
use Rattle.warg_prover.proofs.Marks.{Way}
use Rattle.warg_prover.proofs.Paths.{stands_at, path_is}
use Rattle.warg_prover.proofs.Ways.{BitsTell, AllGo, way_is, end_has_value, ends_at_key}

none_of : {A : Type 0} (o : Option A) → ((x : A) → o ≡ Some x → ⊥) → o ≡ None
none_of None h = refl
none_of (Some x) h = absurd (h x refl)

some_of : {A : Type 0} (o : Option A) → IsSome o → (x : A) × (o ≡ Some x)
some_of None h = absurd cc
some_of (Some x) h = (x, refl)

-- every key goes with every other to the root
start : (m : Entries) (key : List ℕ) → IsMap m → AllGo key 0 m
start m key im k d lt = ((im k d lt).0, λ i below. absurd (omega arith))

-- a map without a tree has no key
pub kept_none : (leaves : List LogLeaf) (root key : List ℕ) → IsKept leaves root None → value_at (map_of leaves) key ≡ None
kept_none leaves root key kept = ap (λ (es : Entries). value_at es key) kept.is_tree

-- a way that ends elsewhere shows that the map has not the key
pub kept_absent : (tell : BitsTell) (leaves : List LogLeaf) (root : List ℕ) (tree : Subtree) (key : List ℕ) → IsKept leaves root (Some tree) → IsDigest key → (end_of (tree_of tree) key ≡ key → ⊥) → value_at (map_of leaves) key ≡ None
kept_absent tell leaves root tree key kept is_key other =
    none_of (value_at (map_of leaves) key) (λ value there. other (ends_at_key tell key value is_key 256 (map_of leaves) (tree_of tree) (omega arith) kept.is_tree (start (map_of leaves) key kept.formed) there))

-- what the path of a key is
pub record IsPathOf (m : Entries) (key : List ℕ) (path : MapPath) : Type 0 where
  pub there : IsSome (value_at m key)
  pub formed : IsMapPath path
  pub truly : siblings path ≡ true_siblings m key

pub kept_path : (leaves : List LogLeaf) (root : List ℕ) (tree : Subtree) (key : List ℕ) → IsKept leaves root (Some tree) → end_of (tree_of tree) key ≡ key
    → (given : List ℕ) (given_siblings : List (List ℕ)) (way : Way) → way ≡ way_of (tree_of tree) key → ((depth : ℕ) → depth < 256 → has_bit given depth ≡ stands_at depth way)
    → given_siblings ≡ map (λ s. s.1) way → IsDigest given → All IsDigest given_siblings → IsPathOf (map_of leaves) key (path_of given given_siblings)
kept_path leaves root tree key kept ends given given_siblings way is_way marks are is_given digests =
    let there = end_has_value 256 (map_of leaves) (tree_of tree) key kept.is_tree ends in
    let value = some_of (value_at (map_of leaves) key) there in
    let beside = way_is 256 (map_of leaves) (tree_of tree) key value.0 (omega arith) kept.is_tree value.1 in
    let marks' = subst (λ (w : Way). (depth : ℕ) → depth < 256 → has_bit given depth ≡ stands_at depth w) is_way marks in
    let path = path_is given (way_of (tree_of tree) key) marks' beside.is_way in
    let are' : given_siblings ≡ map (λ s. s.1) (way_of (tree_of tree) key) = are ∙ ap (map (λ (s : ℕ × List ℕ). s.1)) is_way in
    record {
      there = there;
      formed = record {
        given = is_given;
        count = ap length are' ∙ length-map (way_of (tree_of tree) key) (λ s. s.1) ∙ sym path.1;
        siblings = recursion_from_All IsDigest given_siblings digests;
      };
      truly = ap (λ (ss : List (List ℕ)). siblings (path_of given ss)) are' ∙ path.0 ∙ beside.gives;
    }
