-- Laws of the parts of what stands in a table.
use Rattle.std.specs.Prelude.{◌≡◌, ℕ, zero, suc, ◌+◌, ◌-◌, ◌<◌, List, [], ◌∷◌, ◌++◌, map, take, drop, length, slice_index_or, refl}
use Rattle.std.proofs.Common.{sym, ◌∙◌, ap, subst, arith}
use Rattle.std.proofs.lemmas.List.{map-append, take_more, take_all}
use Rattle.comp_table.specs.declared.head.Head.{Head}
use Rattle.comp_table.specs.declared.head.Head.TheVariants as head
use Rattle.comp_table.specs.Trees.{PlainTree, tree, PlainTrees, none, more, trees_of, root, below_root, tree_at, IsBelow}
use Rattle.comp_table.specs.Plain.{leaf}
use Rattle.comp_view.specs.Kinds.{Kind, LabelAlone, Held, Field, AnyEntity, Parts, nothing, one, two, all, first, label_parts, entries_parts, func_parts, entry_parts, parts_of, IsTreeOf, AreTreesOf, IsNumberOf, AreNumbersOf, IsLabel, IsEntryHead}

pub whole : (t : PlainTree) (h : Head) (us : PlainTrees) → h ≡ root t → us ≡ below_root t → tree h us ≡ t
whole (tree g vs) h us e f = λ i. tree (e i) (f i)

-- the parts are as the kind and the root say
pub below_is : (k : Kind) (t : PlainTree) (h : Head) → IsTreeOf k t → h ≡ root t → AreTreesOf (parts_of k h) (below_root t)
below_is k (tree g us) h a e = subst (λ h. AreTreesOf (parts_of k h) us) (sym e) a

module _ (ts : List PlainTree) where
  pub one_there : (k : Kind) (ps : List ℕ) → AreTreesOf (one k) (trees_of (map (tree_at ts) ps)) → 0 < length ps
  one_there k [] a = absurd a
  one_there k (p ∷ ps) a = omega arith

  pub one_part : (k : Kind) (ps : List ℕ) → AreTreesOf (one k) (trees_of (map (tree_at ts) ps)) → trees_of (map (tree_at ts) ps) ≡ more (tree_at ts (slice_index_or ps 0 0)) none
  one_part k [] a = absurd a
  one_part k (p ∷ []) a = refl
  one_part k (p ∷ q ∷ ps) a = absurd a

  pub one_is : (n : ℕ) (k : Kind) (ps : List ℕ) → n < length ts → IsBelow n ps → AreTreesOf (one k) (trees_of (map (tree_at ts) ps)) → IsNumberOf k ts (slice_index_or ps 0 0)
  one_is n k [] lt b a = absurd a
  one_is n k (p ∷ []) lt b a = let h = b.0 in record { there = omega (arith, lt, h); is_one = a }
  one_is n k (p ∷ q ∷ ps) lt b a = absurd a

  pub two_there : (k l : Kind) (ps : List ℕ) → AreTreesOf (two k l) (trees_of (map (tree_at ts) ps)) → 1 < length ps
  two_there k l [] a = absurd a
  two_there k l (p ∷ []) a = absurd a
  two_there k l (p ∷ q ∷ ps) a = omega arith

  pub two_parts : (k l : Kind) (ps : List ℕ) → AreTreesOf (two k l) (trees_of (map (tree_at ts) ps)) → trees_of (map (tree_at ts) ps) ≡ more (tree_at ts (slice_index_or ps 0 0)) (more (tree_at ts (slice_index_or ps 1 0)) none)
  two_parts k l [] a = absurd a
  two_parts k l (p ∷ []) a = absurd a
  two_parts k l (p ∷ q ∷ []) a = refl
  two_parts k l (p ∷ q ∷ r ∷ ps) a = absurd a

  pub two_are : (n : ℕ) (k l : Kind) (ps : List ℕ) → n < length ts → IsBelow n ps → AreTreesOf (two k l) (trees_of (map (tree_at ts) ps)) → IsNumberOf k ts (slice_index_or ps 0 0) × IsNumberOf l ts (slice_index_or ps 1 0)
  two_are n k l [] lt b a = absurd a
  two_are n k l (p ∷ []) lt b a = absurd a
  two_are n k l (p ∷ q ∷ []) lt b a = let h = b.0 in let g = b.1.0 in
      (record { there = omega (arith, lt, h); is_one = a.0 }, record { there = omega (arith, lt, g); is_one = a.1 })
  two_are n k l (p ∷ q ∷ r ∷ ps) lt b a = absurd a

  pub all_are : (n : ℕ) (k : Kind) (ps : List ℕ) → n < length ts → IsBelow n ps → AreTreesOf (all k) (trees_of (map (tree_at ts) ps)) → AreNumbersOf k ts ps
  all_are n k [] lt b a = tt
  all_are n k (p ∷ ps) lt b a = let h = b.0 in (record { there = omega (arith, lt, h); is_one = a.0 }, all_are n k ps lt b.1 a.1)

  pub first_there : (k l : Kind) (ps : List ℕ) → AreTreesOf (first k l) (trees_of (map (tree_at ts) ps)) → 0 < length ps
  first_there k l [] a = absurd a
  first_there k l (p ∷ ps) a = omega arith

  pub first_are : (n : ℕ) (k l : Kind) (ps : List ℕ) → n < length ts → IsBelow n ps → AreTreesOf (first k l) (trees_of (map (tree_at ts) ps)) → IsNumberOf k ts (slice_index_or ps 0 0) × AreNumbersOf l ts (drop 1 ps)
  first_are n k l [] lt b a = absurd a
  first_are n k l (p ∷ ps) lt b a = let h = b.0 in (record { there = omega (arith, lt, h); is_one = a.0 }, all_are n l ps lt b.1 a.1)

  -- one of some numbers
  pub number_at : (k : Kind) (ps : List ℕ) (i d : ℕ) → AreNumbersOf k ts ps → i < length ps → IsNumberOf k ts (slice_index_or ps i d)
  number_at k [] i d a lt = absurd (omega (arith, lt))
  number_at k (p ∷ ps) zero d a lt = a.0
  number_at k (p ∷ ps) (suc i) d a lt = number_at k ps i d a.1 (omega (arith, lt))

-- one row more of a list that is taken out
module _ {X : Type 0} (f : X → PlainTree) (g : ℕ → PlainTree) (ps : List ℕ) where
  pub built_step : (i d : ℕ) (xs ys : List X) (x : X) → i < length ps → map f xs ≡ map g (take i ps) → f x ≡ g (slice_index_or ps i d) → ys ≡ xs ++ x ∷ [] → map f ys ≡ map g (take (i + 1) ps)
  built_step i d xs ys x lt e h is =
      ap (map f) is ∙ map-append f xs (x ∷ []) ∙ (λ j. e j ++ h j ∷ [])
      ∙ sym (map-append g (take i ps) (slice_index_or ps i d ∷ [])) ∙ ap (map g) (sym (take_more ps i d lt))

  pub built_end : (xs : List X) → map f xs ≡ map g (take (length ps) ps) → map f xs ≡ map g ps
  built_end xs e = e ∙ ap (map g) (take_all (length ps) ps (omega arith))

-- what stands below the root of a tree of a kind
pub opened : (k : Kind) (t : PlainTree) → IsTreeOf k t → AreTreesOf (parts_of k (root t)) (below_root t)
opened k (tree h us) a = a

pub labelled : (p : Parts) (h : Head) (us : PlainTrees) → AreTreesOf (label_parts p h) us → AreTreesOf p us
labelled p (head.Label l) us a = a
labelled p _ us a = absurd a

pub label_whole : (t : PlainTree) (l : List ℕ) → IsTreeOf LabelAlone t → head.Label l ≡ root t → leaf (head.Label l) ≡ t
label_whole (tree h none) l a e = ap leaf e
label_whole (tree (head.Label m) (more u us)) l a e = absurd a
label_whole (tree h (more u us)) l a e = absurd (subst (λ h. AreTreesOf (label_parts nothing h) (more u us)) (sym e) a)

pub has_label : (p : Parts) (h : Head) (us : PlainTrees) → AreTreesOf (label_parts p h) us → IsLabel h
has_label p (head.Label l) us a = tt
has_label p _ us a = absurd a

pub held_together : (k : Kind) (h : Head) (us : PlainTrees) → AreTreesOf (entries_parts k h) us → (head.Entries ≡ h) × AreTreesOf (all k) us
held_together k head.Entries us a = (refl, a)
held_together k _ us a = absurd a

pub func_below : (h : Head) (us : PlainTrees) → AreTreesOf (func_parts h) us → (head.FuncType ≡ h) × AreTreesOf (first Held Field) us
func_below head.FuncType us a = (refl, a)
func_below _ us a = absurd a

pub entry_below : (h : Head) (us : PlainTrees) → AreTreesOf (entry_parts h) us → IsEntryHead h × AreTreesOf (one AnyEntity) us
entry_below (head.Entry mark name) us a = (tt, a)
entry_below _ us a = absurd a

pub others : (ps : List ℕ) → 0 < length ps → take (length ps - 1) (drop 1 ps) ≡ drop 1 ps
others [] lt = absurd (omega (arith, lt))
others (p ∷ ps) lt = take_all (length (p ∷ ps) - 1) ps (omega arith)
