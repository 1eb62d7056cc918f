-- Laws of numbers that stand for trees, also in a table that has grown.
use Rattle.std.specs.Prelude.{◌≡◌, ℕ, ◌+◌, ◌<◌, List, [], ◌∷◌, ◌++◌, map, length, refl, take, slice_index_or, Result, IfOk}
use Rattle.std.proofs.Common.{sym, ◌∙◌, ap, subst, append_assoc, append-nil, arith, length-append}
use Rattle.std.proofs.lemmas.List.{get_or_append_left, map-append, take_more, take_all}
use Rattle.comp_table.specs.declared.head.Head.{Head}
use Rattle.comp_table.specs.declared.head.Head.TheVariants as head
use Rattle.comp_table.specs.Trees.{PlainTree, tree, none, trees_of, tree_at, node_tree, IsBelow, Extends, Stands, AllStand}

pub grows_not : (ts : List PlainTree) → Extends ts ts
grows_not ts = record { added = []; new_is = sym (append-nil ts) }

pub grows_on : (ts us vs : List PlainTree) → Extends ts us → Extends us vs → Extends ts vs
grows_on ts us vs a b = record { added = a.added ++ b.added; new_is = b.new_is ∙ ap (λ xs. xs ++ b.added) a.new_is ∙ append_assoc ts a.added b.added }

below_more : (k l : ℕ) (ns : List ℕ) → IsBelow k ns → IsBelow (k + l) ns
below_more k l [] b = tt
below_more k l (n ∷ ns) b = let h = b.0 in (omega arith, below_more k l ns b.1)

module _ (ts us : List PlainTree) (grown : Extends ts us) where
  front : (n : ℕ) → n < length ts → tree_at us n ≡ tree_at ts n
  front n lt = ap (λ xs. tree_at xs n) grown.new_is ∙ get_or_append_left ts grown.added (tree head.Absent none) n lt

  longer : (n : ℕ) → n < length ts → n < length us
  longer n lt = let h = ap length grown.new_is in let k = length-append ts grown.added in omega (arith, h, k)

  pub stands_kept : (n : ℕ) (t : PlainTree) → Stands ts n t → Stands us n t
  stands_kept n t s = record { there = longer n s.there; tree_is = front n s.there ∙ s.tree_is }

  trees_kept : (ns : List ℕ) → IsBelow (length ts) ns → map (tree_at us) ns ≡ map (tree_at ts) ns
  trees_kept [] b = refl
  trees_kept (n ∷ ns) b = λ i. front n b.0 i ∷ trees_kept ns b.1 i

  pub all_kept : (ns : List ℕ) (vs : List PlainTree) → AllStand ts ns vs → AllStand us ns vs
  all_kept ns vs a = record {
    all_there = subst (λ k. IsBelow k ns) (sym (ap length grown.new_is ∙ length-append ts grown.added)) (below_more (length ts) (length grown.added) ns a.all_there);
    trees_are = trees_kept ns a.all_there ∙ a.trees_are;
  }

below_push : (k : ℕ) (ns : List ℕ) (n : ℕ) → IsBelow k ns → n < k → IsBelow k (ns ++ n ∷ [])
below_push k [] n b lt = (lt, tt)
below_push k (m ∷ ns) n b lt = (b.0, below_push k ns n b.1 lt)

pub all_none : (ts : List PlainTree) → AllStand ts [] []
all_none ts = record { all_there = tt; trees_are = refl }

pub all_first : (ts : List PlainTree) (n : ℕ) (u : PlainTree) (ns : List ℕ) (us : List PlainTree) → Stands ts n u → AllStand ts ns us → AllStand ts (n ∷ ns) (u ∷ us)
all_first ts n u ns us s a = record { all_there = (s.there, a.all_there); trees_are = λ i. s.tree_is i ∷ a.trees_are i }

pub all_push : (ts : List PlainTree) (ns : List ℕ) (us : List PlainTree) (n : ℕ) (u : PlainTree) → AllStand ts ns us → Stands ts n u → AllStand ts (ns ++ n ∷ []) (us ++ u ∷ [])
all_push ts ns us n u a s = record {
  all_there = below_push (length ts) ns n a.all_there s.there;
  trees_are = map-append (tree_at ts) ns (n ∷ []) ∙ (λ i. a.trees_are i ++ s.tree_is i ∷ []);
}

-- one row more of a list
module _ {X : Type 0} (f : X → PlainTree) (xs : List X) where
  pub all_step : (ts us : List PlainTree) (i : ℕ) (d : X) (ns ms : List ℕ) (n : ℕ) → i < length xs → Extends ts us → AllStand ts ns (map f (take i xs)) → Stands us n (f (slice_index_or xs i d)) → ms ≡ ns ++ n ∷ [] → AllStand us ms (map f (take (i + 1) xs))
  all_step ts us i d ns ms n lt grown a s e =
      let more = take_more xs i d lt in
      let here : map f (take i xs) ++ f (slice_index_or xs i d) ∷ [] ≡ map f (take (i + 1) xs) = sym (map-append f (take i xs) (slice_index_or xs i d ∷ [])) ∙ ap (map f) (sym more) in
      subst (λ ks. AllStand us ks (map f (take (i + 1) xs))) (sym e)
      (subst (AllStand us (ns ++ n ∷ [])) here (all_push us ns (map f (take i xs)) n (f (slice_index_or xs i d)) (all_kept ts us grown ns (map f (take i xs)) a) s))

  pub all_end : (ts : List PlainTree) (ns : List ℕ) → AllStand ts ns (map f (take (length xs) xs)) → AllStand ts ns (map f xs)
  all_end ts ns a = subst (λ ys. AllStand ts ns (map f ys)) (take_all (length xs) xs (omega arith)) a

-- a number that stands for a tree stands for an equal one
pub same_stands : (ts : List PlainTree) (n : ℕ) (t u : PlainTree) → t ≡ u → Stands ts n t → Stands ts n u
same_stands ts n t u e s = subst (Stands ts n) e s

pub number_of_same : {E : Type 0} (r : Result ℕ E) (ts : List PlainTree) (t u : PlainTree) → t ≡ u → IfOk r (λ n. Stands ts n t) → IfOk r (λ n. Stands ts n u)
number_of_same r ts t u e h = subst (λ x. IfOk r (λ n. Stands ts n x)) e h

-- the tree of a node whose parts stand for these trees
pub node_is : (ts : List PlainTree) (h : Head) (ns : List ℕ) (us : List PlainTree) → AllStand ts ns us → node_tree ts h ns ≡ tree h (trees_of us)
node_is ts h ns us a = ap (λ xs. tree h (trees_of xs)) a.trees_are
