-- Laws of numbers of what all resources are one in.
use Rattle.std.specs.Prelude.{◌≡◌, ℕ, zero, suc, ◌<◌, List, [], ◌∷◌, map, length, slice_index_or, Some, refl, ◌⊎◌}
use Rattle.std.specs.BTreeMap.{BTreeMap, get, Updates}
use Rattle.std.specs.FinMap.{nat_cmp-IsAntisymmetric}
use Rattle.std.specs.Ordering.{nat_cmp}
use Rattle.std.specs.declared.cmp.Ordering.TheVariants.{Equal}
use Rattle.std.proofs.Common.{sym, ◌∙◌, ap, subst, arith, inl, inr, length-append}
use Rattle.std.proofs.lemmas.List.{get_or_append_left}
use Rattle.std.proofs.lemmas.Option.{same_Some}
use Rattle.comp_entity.specs.Names.{Change}
use Rattle.comp_fit.specs.Known.{IsLoosened, AreLoosened}
use Rattle.comp_fit.specs.Loose.{loosely}
use Rattle.comp_fit.proofs.KindLaws.{got}
use Rattle.comp_table.specs.Changes.{head_by, scopes_in, tree_by, trees_by}
use Rattle.comp_table.specs.StandLaws.{stands_kept}
use Rattle.comp_table.specs.Trees.{PlainTree, tree, none, more, trees_of, root, below_root, tree_at, node_tree, Stands, AllStand, Extends, IsBelow}
use Rattle.comp_table.specs.declared.head.Head.{Head}
use Rattle.comp_table.specs.declared.head.Head.TheVariants as head

pub longer : (ts us : List PlainTree) (n : ℕ) → Extends ts us → n < length ts → n < length us
longer ts us n grown lt = let h = ap length grown.new_is in let k = length-append ts grown.added in omega (arith, h, k)

pub below_at : (k : ℕ) (ns : List ℕ) (i d : ℕ) → IsBelow k ns → i < length ns → slice_index_or ns i d < k
below_at k [] i d b lt = absurd (omega (arith, lt))
below_at k (n ∷ ns) zero d b lt = b.0
below_at k (n ∷ ns) (suc i) d b lt = below_at k ns i d b.1 (omega (arith, lt))

pub below_wider : (k l : ℕ) (ns : List ℕ) → k < l → IsBelow k ns → IsBelow l ns
below_wider k l [] lt b = tt
below_wider k l (n ∷ ns) lt b = let h = b.0 in (omega (arith, h, lt), below_wider k l ns lt b.1)

pub tree_kept : (ts us : List PlainTree) (n : ℕ) → Extends ts us → n < length ts → tree_at us n ≡ tree_at ts n
tree_kept ts us n grown lt = ap (λ xs. tree_at xs n) grown.new_is ∙ get_or_append_left ts grown.added (tree head.Absent none) n lt

pub loosened_kept : (ts us : List PlainTree) (known : BTreeMap ℕ ℕ) → Extends ts us → AreLoosened ts known → AreLoosened us known
loosened_kept ts us known grown are m n e =
    let old = are m n e in record {
      there = longer ts us m grown old.there;
      loosened = λ d. stands_kept ts us grown n (tree_by loosely d (tree_at us m))
          (subst (λ t. Stands ts n (tree_by loosely d t)) (sym (tree_kept ts us m grown old.there)) (old.loosened d));
    }

pub loosened_more : (ts : List PlainTree) (old new : BTreeMap ℕ ℕ) (m n : ℕ) → AreLoosened ts old → IsLoosened ts m n → Updates nat_cmp old new m (Some n) → AreLoosened ts new
loosened_more ts old new m n are here updates q i e = of (got (nat_cmp m q) (Some n) (get nat_cmp old q) i (sym (updates.0 q) ∙ e))
  where
    of : ((nat_cmp m q ≡ Equal) × (Some n ≡ Some i)) ⊎ (get nat_cmp old q ≡ Some i) → IsLoosened ts q i
    of (inl h) = subst (λ x. IsLoosened ts x i) (nat_cmp-IsAntisymmetric m q h.0) (subst (IsLoosened ts m) (same_Some n i h.1) here)
    of (inr h) = are q i h

parts_changed : (c : Change) (ts : List PlainTree) (d : ℕ) (ps : List ℕ) → trees_of (map (λ p. tree_by c d (tree_at ts p)) ps) ≡ trees_by c d (trees_of (map (tree_at ts) ps))
parts_changed c ts d [] = refl
parts_changed c ts d (p ∷ ps) = ap (more (tree_by c d (tree_at ts p))) (parts_changed c ts d ps)

by_parts : (c : Change) (d : ℕ) (t : PlainTree) → tree_by c d t ≡ tree (head_by c d (root t)) (trees_by c (scopes_in (root t) d) (below_root t))
by_parts c d (tree h us) = refl

-- a node of a changed head and of changed parts
pub node_loose : (ts us : List PlainTree) (d : ℕ) (t : PlainTree) (h b : Head) (ps ns : List ℕ) → h ≡ root t → trees_of (map (tree_at ts) ps) ≡ below_root t → b ≡ head_by loosely d h → AllStand us ns (map (λ p. tree_by loosely (scopes_in h d) (tree_at ts p)) ps) → node_tree us b ns ≡ tree_by loosely d t
node_loose ts us d t h b ps ns is below loose all =
    (λ i. tree (loose i) (trees_of (all.trees_are i)))
    ∙ ap (tree (head_by loosely d h)) (parts_changed loosely ts (scopes_in h d) ps)
    ∙ ap (λ us. tree (head_by loosely d h) (trees_by loosely (scopes_in h d) us)) below
    ∙ (λ i. tree (head_by loosely d (is i)) (trees_by loosely (scopes_in (is i) d) (below_root t)))
    ∙ sym (by_parts loosely d t)
