-- Laws of numbers that were renamed.
use Rattle.std.specs.Prelude.{◌≡◌, ℕ, zero, suc, ◌<◌, List, [], ◌∷◌, map, length, slice_index_or, Option, Some, cond, refl, ◌⊎◌}
use Rattle.std.specs.BTreeMap.{BTreeMap, get, Updates, is_at}
use Rattle.std.specs.Map.{lookup}
use Rattle.std.specs.FinMap.{nat_cmp-IsAntisymmetric}
use Rattle.std.specs.Ordering.{nat_cmp, ordering_then, is_eq}
use Rattle.std.specs.declared.cmp.Ordering.{Ordering}
use Rattle.std.specs.declared.cmp.Ordering.TheVariants.{Less, Equal, Greater}
use Rattle.std.proofs.Common.{sym, ◌∙◌, ap, subst, arith, inl, inr, length-append}
use Rattle.std.proofs.lemmas.List.{get_or_append_left}
use Rattle.std.proofs.lemmas.Option.{same_Some}
use Rattle.comp_entity.specs.Names.{Change}
use Rattle.comp_rename.specs.declared.rename.Mentioned.{Mentioned}
use Rattle.comp_rename.specs.Known.{mentioned_cmp, IsRenamed, IsKnown}
use Rattle.comp_table.specs.Changes.{head_by, scopes_in, tree_by, trees_by}
use Rattle.comp_table.specs.StandLaws.{stands_kept}
use Rattle.comp_table.specs.Trees.{PlainTree, tree, none, more, trees_of, root, below_root, tree_at, node_tree, Stands, AllStand, Extends, IsBelow}
use Rattle.comp_table.specs.declared.head.Head.{Head}
use Rattle.comp_table.specs.declared.head.Head.TheVariants as head

both : (x y : Ordering) → ordering_then x y ≡ Equal → (x ≡ Equal) × (y ≡ Equal)
both Less y e = absurd cc
both Equal y e = (refl, e)
both Greater y e = absurd cc

tie : (a b : Mentioned) → mentioned_cmp a b ≡ Equal → a ≡ b
tie a b e =
    let h = both (nat_cmp a.number b.number) (nat_cmp a.depth b.depth) e in
    let number = nat_cmp-IsAntisymmetric a.number b.number h.0 in
    let depth = nat_cmp-IsAntisymmetric a.depth b.depth h.1 in λ i. record { number = number i; depth = depth i }

got : (o : Ordering) (found other : Option ℕ) (i : ℕ) → cond (is_eq o) found other ≡ Some i → ((o ≡ Equal) × (found ≡ Some i)) ⊎ (other ≡ Some i)
got Less f x i e = inr e
got Equal f x i e = inl (refl, e)
got Greater f x i e = inr e

pub longer : (ts us : List PlainTree) (n : ℕ) → Extends ts us → n < length ts → n < length us
longer ts us n grown lt = let h = ap length grown.new_is in let k = length-append ts grown.added in omega (arith, h, k)

pub below_at : (k : ℕ) (ns : List ℕ) (i d : ℕ) → IsBelow k ns → i < length ns → slice_index_or ns i d < k
below_at k [] i d b lt = absurd (omega (arith, lt))
below_at k (n ∷ ns) zero d b lt = b.0
below_at k (n ∷ ns) (suc i) d b lt = below_at k ns i d b.1 (omega (arith, lt))

pub below_wider : (k l : ℕ) (ns : List ℕ) → k < l → IsBelow k ns → IsBelow l ns
below_wider k l [] lt b = tt
below_wider k l (n ∷ ns) lt b = let h = b.0 in (omega (arith, h, lt), below_wider k l ns lt b.1)

pub tree_kept : (ts us : List PlainTree) (n : ℕ) → Extends ts us → n < length ts → tree_at us n ≡ tree_at ts n
tree_kept ts us n grown lt = ap (λ xs. tree_at xs n) grown.new_is ∙ get_or_append_left ts grown.added (tree head.Absent none) n lt

pub below_kept : (ts us : List PlainTree) (ns : List ℕ) → Extends ts us → IsBelow (length ts) ns → IsBelow (length us) ns
below_kept ts us [] grown b = tt
below_kept ts us (n ∷ ns) grown b = (longer ts us n grown b.0, below_kept ts us ns grown b.1)

module _ (c : Change) where
  pub known_kept : (ts us : List PlainTree) (known : BTreeMap Mentioned ℕ) → Extends ts us → IsKnown c ts known → IsKnown c us known
  known_kept ts us known grown is m n e =
      let old = is m n e in record {
        there = longer ts us m.number grown old.there;
        renamed = stands_kept ts us grown n (tree_by c m.depth (tree_at us m.number))
            (subst (λ t. Stands ts n (tree_by c m.depth t)) (sym (tree_kept ts us m.number grown old.there)) old.renamed);
      }

  pub known_more : (ts : List PlainTree) (old new : BTreeMap Mentioned ℕ) (m : Mentioned) (n : ℕ) → IsKnown c ts old → IsRenamed c ts m n → Updates mentioned_cmp old new m (Some n) → IsKnown c ts new
  known_more ts old new m n is here updates q i e = of (got (mentioned_cmp m q) (Some n) (get mentioned_cmp old q) i (sym (updates.0 q) ∙ e))
    where
      of : ((mentioned_cmp m q ≡ Equal) × (Some n ≡ Some i)) ⊎ (get mentioned_cmp old q ≡ Some i) → IsRenamed c ts q i
      of (inl h) = subst (λ x. IsRenamed c ts x i) (tie m q h.0) (subst (IsRenamed c ts m) (same_Some n i h.1) here)
      of (inr h) = is q i h

  pub known_none : (ts : List PlainTree) (known : BTreeMap Mentioned ℕ) → known.entries ≡ [] → IsKnown c ts known
  known_none ts known empty m n e = absurd (let h = ap (λ es. lookup (is_at (mentioned_cmp m)) es) (sym empty) ∙ e in cc)

  parts_renamed : (ts : List PlainTree) (d : ℕ) (ps : List ℕ) → trees_of (map (λ p. tree_by c d (tree_at ts p)) ps) ≡ trees_by c d (trees_of (map (tree_at ts) ps))
  parts_renamed ts d [] = refl
  parts_renamed ts d (p ∷ ps) = ap (more (tree_by c d (tree_at ts p))) (parts_renamed ts d ps)

  its_parts : (d : ℕ) (t : PlainTree) → tree_by c d t ≡ tree (head_by c d (root t)) (trees_by c (scopes_in (root t) d) (below_root t))
  its_parts d (tree h parts) = refl

  -- a node of a renamed head and of renamed parts
  pub node_renamed : (ts us : List PlainTree) (d e : ℕ) (t : PlainTree) (h b : Head) (ps ns : List ℕ) → h ≡ root t → trees_of (map (tree_at ts) ps) ≡ below_root t → b ≡ head_by c d h → e ≡ scopes_in h d → AllStand us ns (map (λ p. tree_by c e (tree_at ts p)) ps) → node_tree us b ns ≡ tree_by c d t
  node_renamed ts us d e t h b ps ns is below renamed deep all =
      (λ i. tree (renamed i) (trees_of (all.trees_are i)))
      ∙ ap (tree (head_by c d h)) (parts_renamed ts e ps)
      ∙ (λ i. tree (head_by c d h) (trees_by c (deep i) (below i)))
      ∙ (λ i. tree (head_by c d (is i)) (trees_by c (scopes_in (is i) d) (below_root t)))
      ∙ sym (its_parts d t)
