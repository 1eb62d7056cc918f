-- Laws of tables: what their numbers stand for, and that each tree has one number.
use Rattle.std.specs.Prelude.{◌≡◌, ℕ, zero, suc, ◌+◌, ◌<◌, List, [], ◌∷◌, ◌++◌, map, length, Option, Some, None, slice_get, slice_index_or, refl, cond, ◌⊎◌}
use Rattle.std.specs.BTreeMap.{BTreeMap, get, Updates, is_at}
use Rattle.std.specs.Map.{lookup}
use Rattle.std.specs.Cmp.Lexicographic.{slice_cmp}
use Rattle.std.specs.FinMap.{slice_cmp-IsAntisymmetric, nat_cmp-IsAntisymmetric}
use Rattle.std.specs.Ordering.{nat_cmp, ordering_then, is_eq}
use Rattle.std.specs.declared.cmp.Ordering.{Ordering}
use Rattle.std.specs.declared.cmp.Ordering.TheVariants.{Less, Equal, Greater}
use Rattle.std.proofs.Common.{sym, ◌∙◌, ap, subst, append_assoc, append-nil, arith, length-append, inl, inr}
use Rattle.std.proofs.lemmas.List.{get_or_append_left}
use Rattle.std.proofs.lemmas.Option.{slice_get_within, slice_get-get_or, same_Some}
use Rattle.comp_table.specs.declared.head.Head.{Head}
use Rattle.comp_table.specs.Changes.{bare_tree}
use Rattle.comp_table.specs.declared.head.Head.TheVariants as head
use Rattle.comp_table.specs.declared.key.Key.{Key}
use Rattle.comp_table.specs.declared.table.Node.{Node}
use Rattle.comp_table.specs.Trees.{PlainTree, tree, PlainTrees, none, more, trees_of, root, below_root, tree_at, node_tree, IsBelow, Extends, Stands, IsOnce}
use Rattle.comp_table.specs.Table.{IsBare, IsBareOf, AreBare, IsMeasured, AreMeasured, trees_from, trees, node_key, key_cmp, IsFound, IsTable}
use Rattle.comp_table.proofs.HeadLaws.{same_head}

-- what is at a number where no tree is
abbrev absent : PlainTree
absent = tree head.Absent none

abbrev tree_in : List PlainTree → Node → PlainTree
tree_in ts n = node_tree ts n.head n.parts

-- one node behind the others
pub trees_push : (ts : List PlainTree) (ns : List Node) (n : Node) → trees_from ts (ns ++ n ∷ []) ≡ trees_from ts ns ++ tree_in (trees_from ts ns) n ∷ []
trees_push ts [] n = refl
trees_push ts (m ∷ ns) n = trees_push (ts ++ tree_in ts m ∷ []) ns n

trees_count : (ts : List PlainTree) (ns : List Node) → length (trees_from ts ns) ≡ length ts + length ns
trees_count ts [] = omega arith
trees_count ts (m ∷ ns) =
    let h = trees_count (ts ++ tree_in ts m ∷ []) ns in
    let k = length-append ts (tree_in ts m ∷ []) in omega (arith, h, k)

pub trees_length : (ns : List Node) → length (trees ns) ≡ length ns
trees_length ns = let h = trees_count [] ns in omega (arith, h)

trees_front : (ts : List PlainTree) (ns : List Node) → (more : List PlainTree) × (trees_from ts ns ≡ ts ++ more)
trees_front ts [] = ([], sym (append-nil ts))
trees_front ts (m ∷ ns) =
    let h = trees_front (ts ++ tree_in ts m ∷ []) ns in
    (tree_in ts m ∷ h.0, h.1 ∙ append_assoc ts (tree_in ts m ∷ []) h.0)

parts_front : (ts us : List PlainTree) (parts : List ℕ) → IsBelow (length ts) parts → map (tree_at (ts ++ us)) parts ≡ map (tree_at ts) parts
parts_front ts us [] b = refl
parts_front ts us (p ∷ ps) b = λ i. get_or_append_left ts us absent p b.0 i ∷ parts_front ts us ps b.1 i

seam : {X : Type 0} (ts us : List X) (t : X) (k : ℕ) → k ≡ length ts → slice_get (ts ++ t ∷ us) k ≡ Some t
seam [] us t k e = rw e refl
seam (x ∷ ts) us t zero e = absurd (omega (arith, e))
seam (x ∷ ts) us t (suc k) e = seam ts us t k (omega (arith, e))

-- what a number stands for is the tree of its node
stands_here : (ts : List PlainTree) (m : Node) (ns : List Node) → IsBelow (length ts) m.parts → slice_get (trees_from ts (m ∷ ns)) (length ts) ≡ Some (tree_in (trees_from ts (m ∷ ns)) m)
stands_here ts m ns b =
    let h = trees_front (ts ++ tree_in ts m ∷ []) ns in
    let k = h.1 ∙ append_assoc ts (tree_in ts m ∷ []) h.0 in
    rw k (seam ts h.0 (tree_in ts m) (length ts) refl
    ∙ ap (λ ps. Some (tree m.head (trees_of ps))) (sym (parts_front ts (tree_in ts m ∷ h.0) m.parts b)))

stands_first : (ts : List PlainTree) (m : Node) (ns : List Node) (n : Node) → m ≡ n → IsBelow (length ts + 0) n.parts → slice_get (trees_from ts (m ∷ ns)) (length ts + 0) ≡ Some (tree_in (trees_from ts (m ∷ ns)) n)
stands_first ts m ns n same b =
    let at : length ts ≡ length ts + 0 = omega arith in
    subst (λ x. slice_get (trees_from ts (m ∷ ns)) (length ts + 0) ≡ Some (tree_in (trees_from ts (m ∷ ns)) x)) same
    (subst (λ j. slice_get (trees_from ts (m ∷ ns)) j ≡ Some (tree_in (trees_from ts (m ∷ ns)) m)) at
    (stands_here ts m ns (subst (λ j. IsBelow j m.parts) (sym at) (subst (λ x. IsBelow (length ts + 0) x.parts) (sym same) b))))

stands_from : (ts : List PlainTree) (ns : List Node) (i : ℕ) (n : Node) → slice_get ns i ≡ Some n → IsBelow (length ts + i) n.parts → slice_get (trees_from ts ns) (length ts + i) ≡ Some (tree_in (trees_from ts ns) n)
stands_from ts [] i n e b = absurd cc
stands_from ts (m ∷ ns) zero n e b = stands_first ts m ns n (same_Some m n e) b
stands_from ts (m ∷ ns) (suc i) n e b =
    let at : length (ts ++ tree_in ts m ∷ []) + i ≡ length ts + suc i = let k = length-append ts (tree_in ts m ∷ []) in omega (arith, k) in
    subst (λ j. slice_get (trees_from ts (m ∷ ns)) j ≡ Some (tree_in (trees_from ts (m ∷ ns)) n)) at
    (stands_from (ts ++ tree_in ts m ∷ []) ns i n e (subst (λ j. IsBelow j n.parts) (sym at) b))

number_stands : (ns : List Node) (i : ℕ) (n : Node) → slice_get ns i ≡ Some n → IsBelow i n.parts → slice_get (trees ns) i ≡ Some (tree_in (trees ns) n)
number_stands ns i n e b =
    let at : 0 + i ≡ i = omega arith in
    subst (λ j. slice_get (trees ns) j ≡ Some (tree_in (trees ns) n)) at (stands_from [] ns i n e (subst (λ j. IsBelow j n.parts) (sym at) b))

-- only equal keys tie
both : (x y : Ordering) → ordering_then x y ≡ Equal → (x ≡ Equal) × (y ≡ Equal)
both Less y e = absurd cc
both Equal y e = (refl, e)
both Greater y e = absurd cc

tie : (a b : Key) → key_cmp a b ≡ Equal → a ≡ b
tie a b e =
    let f = both (nat_cmp a.kind b.kind) _ e in
    let g = both (slice_cmp nat_cmp a.numbers b.numbers) _ f.1 in
    let h = both (slice_cmp nat_cmp a.label b.label) (slice_cmp nat_cmp a.parts b.parts) g.1 in
    let kind = nat_cmp-IsAntisymmetric a.kind b.kind f.0 in
    let numbers = slice_cmp-IsAntisymmetric nat_cmp-IsAntisymmetric a.numbers b.numbers g.0 in
    let label = slice_cmp-IsAntisymmetric nat_cmp-IsAntisymmetric a.label b.label h.0 in
    let parts = slice_cmp-IsAntisymmetric nat_cmp-IsAntisymmetric a.parts b.parts h.1 in
    λ i. record { kind = kind i; numbers = numbers i; label = label i; parts = parts i }

-- a table with one node more
got : (o : Ordering) (found other : Option ℕ) (i : ℕ) → cond (is_eq o) found other ≡ Some i → ((o ≡ Equal) × (found ≡ Some i)) ⊎ (other ≡ Some i)
got Less f x i e = inr e
got Equal f x i e = inl (refl, e)
got Greater f x i e = inr e

get_front : {X : Type 0} (xs ys : List X) (i : ℕ) (x : X) → slice_get xs i ≡ Some x → slice_get (xs ++ ys) i ≡ Some x
get_front [] ys i x e = absurd cc
get_front (y ∷ xs) ys zero x e = e
get_front (y ∷ xs) ys (suc i) x e = get_front xs ys i x e

get_pushed : {X : Type 0} (xs : List X) (y : X) (i : ℕ) (x : X) → slice_get (xs ++ y ∷ []) i ≡ Some x → (slice_get xs i ≡ Some x) ⊎ ((i ≡ length xs) × (y ≡ x))
get_pushed [] y zero x e = inr (refl, same_Some y x e)
get_pushed [] y (suc i) x e = absurd cc
get_pushed (z ∷ xs) y zero x e = inl e
get_pushed (z ∷ xs) y (suc i) x e = behind (get_pushed xs y i x e)
  where
    behind : (slice_get xs i ≡ Some x) ⊎ ((i ≡ length xs) × (y ≡ x)) → (slice_get xs i ≡ Some x) ⊎ ((suc i ≡ suc (length xs)) × (y ≡ x))
    behind (inl a) = inl a
    behind (inr b) = inr (ap suc b.0, b.1)

module _ (nodes : List Node) (old new : Key → Option ℕ) (n : Node)
    (found : (q : Key) (i : ℕ) → old q ≡ Some i → IsFound nodes q i)
    (all : (i : ℕ) (m : Node) → slice_get nodes i ≡ Some m → old (node_key m.head m.parts) ≡ Some i)
    (absent : old (node_key n.head n.parts) ≡ None)
    (updates : (q : Key) → new q ≡ cond (is_eq (key_cmp (node_key n.head n.parts) q)) (Some (length nodes)) (old q))
    (here : new (node_key n.head n.parts) ≡ Some (length nodes)) where
  found_more : (q : Key) (i : ℕ) → new q ≡ Some i → IsFound (nodes ++ n ∷ []) q i
  found_more q i e = of (got (key_cmp (node_key n.head n.parts) q) (Some (length nodes)) (old q) i (sym (updates q) ∙ e))
    where
      of : ((key_cmp (node_key n.head n.parts) q ≡ Equal) × (Some (length nodes) ≡ Some i)) ⊎ (old q ≡ Some i) → IsFound (nodes ++ n ∷ []) q i
      of (inl h) = record {
        node = n;
        is_there = seam nodes [] n i (sym (same_Some (length nodes) i h.1));
        is_its_key = tie (node_key n.head n.parts) q h.0;
      }
      of (inr h) = let f = found q i h in record { node = f.node; is_there = get_front nodes (n ∷ []) i f.node f.is_there; is_its_key = f.is_its_key }

  other : (o : Ordering) (q : Key) (i : ℕ) → key_cmp (node_key n.head n.parts) q ≡ o → old q ≡ Some i → cond (is_eq o) (Some (length nodes)) (old q) ≡ Some i
  other Less q i e h = h
  other Equal q i e h = let same = tie (node_key n.head n.parts) q e in absurd (let k = sym absent ∙ ap old same ∙ h in cc)
  other Greater q i e h = h

  all_more : (i : ℕ) (m : Node) → slice_get (nodes ++ n ∷ []) i ≡ Some m → new (node_key m.head m.parts) ≡ Some i
  all_more i m e = of (get_pushed nodes n i m e)
    where
      of : (slice_get nodes i ≡ Some m) ⊎ ((i ≡ length nodes) × (n ≡ m)) → new (node_key m.head m.parts) ≡ Some i
      of (inl h) = updates (node_key m.head m.parts) ∙ other (key_cmp (node_key n.head n.parts) (node_key m.head m.parts)) (node_key m.head m.parts) i refl (all i m h)
      of (inr h) = subst (λ x. new (node_key x.head x.parts) ≡ Some i) h.1 (here ∙ ap Some (sym h.0))

below_more : (nodes : List Node) (n : Node) → ((i : ℕ) (q : Node) → slice_get nodes i ≡ Some q → IsBelow i q.parts) → IsBelow (length nodes) n.parts → (i : ℕ) (q : Node) → slice_get (nodes ++ n ∷ []) i ≡ Some q → IsBelow i q.parts
below_more nodes n below b i q e = of (get_pushed nodes n i q e)
  where
    of : (slice_get nodes i ≡ Some q) ⊎ ((i ≡ length nodes) × (n ≡ q)) → IsBelow i q.parts
    of (inl h) = below i q h
    of (inr h) = subst (λ x. IsBelow i x.parts) h.1 (subst (λ j. IsBelow j n.parts) (sym h.0) b)

-- a table that has the same nodes and numbers
pub same_table : (ns ms : List Node) (t u : BTreeMap Key ℕ) → IsTable ns t → ms ≡ ns → u.entries ≡ t.entries → IsTable ms u
same_table ns ms t u is nodes numbers = record {
  found = λ q i e. subst (λ xs. IsFound xs q i) (sym nodes) (is.found q i (ap (λ es. lookup (is_at (key_cmp q)) es) (sym numbers) ∙ e));
  all = λ i q e. ap (λ es. lookup (is_at (key_cmp (node_key q.head q.parts))) es) numbers ∙ is.all i q (ap (λ xs. slice_get xs i) (sym nodes) ∙ e);
  below = λ i q e. is.below i q (ap (λ xs. slice_get xs i) (sym nodes) ∙ e);
  measured = λ i q e. subst (λ xs. IsMeasured q.size q.depth (tree_at (trees xs) i)) (sym nodes) (is.measured i q (ap (λ xs. slice_get xs i) (sym nodes) ∙ e));
  bare = λ i q e. subst (λ xs. IsBare (trees xs) i q.bare) (sym nodes) (is.bare i q (ap (λ xs. slice_get xs i) (sym nodes) ∙ e));
}

pub trees_with : (ns ms : List Node) (n : Node) → ms ≡ ns ++ n ∷ [] → trees ms ≡ trees ns ++ tree_in (trees ns) n ∷ []
trees_with ns ms n nodes = ap (trees_from []) nodes ∙ trees_push [] ns n

get_is : {X : Type 0} (ts : List X) (n : ℕ) (d x : X) → slice_get ts n ≡ Some x → slice_index_or ts n d ≡ x
get_is ts n d x e = same_Some (slice_index_or ts n d) x (sym (slice_get-get_or ts n d (slice_get_within ts n x e)) ∙ e)

pub stands_last : (ns ms : List Node) (n : Node) (k : ℕ) → k ≡ length ns → ms ≡ ns ++ n ∷ [] → slice_get (trees ms) k ≡ Some (node_tree (trees ns) n.head n.parts)
stands_last ns ms n k at nodes =
    let same : k ≡ length (trees ns) = let h = trees_length ns in omega (arith, h, at) in
    rw (trees_with ns ms n nodes) (seam (trees ns) [] (tree_in (trees ns) n) k same)

pub stands : (ts : List PlainTree) (n : ℕ) (t : PlainTree) → slice_get ts n ≡ Some t → Stands ts n t
stands ts n t e = record { there = slice_get_within ts n t e; tree_is = get_is ts n absent t e }

-- measures with one node more
measured_more : (ns ms : List Node) (n : Node) → ms ≡ ns ++ n ∷ [] → AreMeasured ns → IsMeasured n.size n.depth (tree_in (trees ns) n) → (i : ℕ) (q : Node) → slice_get (ns ++ n ∷ []) i ≡ Some q → IsMeasured q.size q.depth (tree_at (trees ms) i)
measured_more ns ms n nodes measured here i q e = of (get_pushed ns n i q e)
  where
    of : (slice_get ns i ≡ Some q) ⊎ ((i ≡ length ns) × (n ≡ q)) → IsMeasured q.size q.depth (tree_at (trees ms) i)
    of (inl h) =
        let lt = slice_get_within ns i q h in
        let k = trees_length ns in
        let kept = get_or_append_left (trees ns) (tree_in (trees ns) n ∷ []) absent i (omega (arith, lt, k)) in
        subst (λ t. IsMeasured q.size q.depth t) (sym kept ∙ ap (λ ts. tree_at ts i) (sym (trees_with ns ms n nodes))) (measured i q h)
    of (inr h) =
        let there = get_is (trees ms) i absent (tree_in (trees ns) n) (stands_last ns ms n i h.0 nodes) in
        subst (λ (x : Node). IsMeasured x.size x.depth (tree_at (trees ms) i)) h.1 (subst (λ t. IsMeasured n.size n.depth t) (sym there) here)

-- bare numbers with one node more
bare_more : (ns ms : List Node) (n : Node) → ms ≡ ns ++ n ∷ [] → AreBare ns → IsBareOf (trees ns) (tree_in (trees ns) n) n.bare → (i : ℕ) (q : Node) → slice_get (ns ++ n ∷ []) i ≡ Some q → IsBare (trees ms) i q.bare
bare_more ns ms n nodes bare here i q e = of (get_pushed ns n i q e)
  where
    of : (slice_get ns i ≡ Some q) ⊎ ((i ≡ length ns) × (n ≡ q)) → IsBare (trees ms) i q.bare
    of (inl h) =
        let lt = slice_get_within ns i q h in
        let k = trees_length ns in
        let old = bare i q h in
        let within = old.within in
        let kept = get_or_append_left (trees ns) (tree_in (trees ns) n ∷ []) absent i (omega (arith, lt, k)) in
        let bare_kept = get_or_append_left (trees ns) (tree_in (trees ns) n ∷ []) absent q.bare (omega (arith, lt, k, within)) in
        let more = trees_with ns ms n nodes in
        record {
          within = within;
          bare_is = ap (λ ts. tree_at ts q.bare) more ∙ bare_kept ∙ old.bare_is ∙ ap bare_tree (sym kept) ∙ ap (λ ts. bare_tree (tree_at ts i)) (sym more);
        }
    of (inr h) =
        let k = trees_length ns in
        let there = get_is (trees ms) i absent (tree_in (trees ns) n) (stands_last ns ms n i h.0 nodes) in
        let within = here.within in
        let at = h.0 in
        subst (λ (x : Node). IsBare (trees ms) i x.bare) h.1 (record {
          within = omega (arith, within, k, at);
          bare_is = ap (λ ts. tree_at ts n.bare) (trees_with ns ms n nodes) ∙ here.bare_is ∙ ap bare_tree (sym there);
        })

-- a table with one node more
pub table_with : (ns ms : List Node) (t u : BTreeMap Key ℕ) (n : Node) (k : ℕ) → k ≡ length ns → IsTable ns t → IsBelow (length ns) n.parts → get key_cmp t (node_key n.head n.parts) ≡ None → ms ≡ ns ++ n ∷ [] → IsMeasured n.size n.depth (tree_in (trees ns) n) → IsBareOf (trees ns) (tree_in (trees ns) n) n.bare → Updates key_cmp t u (node_key n.head n.parts) (Some k) → IsTable ms u
table_with ns ms t u n k at is below absent nodes measured bare by_k =
    let updates = subst (λ j. Updates key_cmp t u (node_key n.head n.parts) (Some j)) at by_k in
    let found = found_more ns (get key_cmp t) (get key_cmp u) n is.found is.all absent updates.0 updates.1 in
    let all = all_more ns (get key_cmp t) (get key_cmp u) n is.found is.all absent updates.0 updates.1 in
    record {
      found = λ q i e. subst (λ xs. IsFound xs q i) (sym nodes) (found q i e);
      all = λ i q e. all i q (ap (λ xs. slice_get xs i) (sym nodes) ∙ e);
      below = λ i q e. below_more ns n is.below below i q (ap (λ xs. slice_get xs i) (sym nodes) ∙ e);
      measured = λ i q e. measured_more ns ms n nodes is.measured measured i q (ap (λ xs. slice_get xs i) (sym nodes) ∙ e);
      bare = λ i q e. bare_more ns ms n nodes is.bare bare i q (ap (λ xs. slice_get xs i) (sym nodes) ∙ e);
    }

pub extends_with : (ns ms : List Node) (n : Node) → ms ≡ ns ++ n ∷ [] → Extends (trees ns) (trees ms)
extends_with ns ms n nodes = record { added = tree_in (trees ns) n ∷ []; new_is = trees_with ns ms n nodes }

pub extends_same : (ns ms : List Node) → ms ≡ ns → Extends (trees ns) (trees ms)
extends_same ns ms same = record { added = []; new_is = ap trees same ∙ sym (append-nil (trees ns)) }

-- where a node of this key is found, its tree stands
pub stands_found : (ns : List Node) (t : BTreeMap Key ℕ) (i : ℕ) (h : Head) (ps : List ℕ) → IsTable ns t → get key_cmp t (node_key h ps) ≡ Some i → slice_get (trees ns) i ≡ Some (node_tree (trees ns) h ps)
stands_found ns t i h ps is e =
    let f = is.found (node_key h ps) i e in
    let heads = same_head f.node.head h f.node.parts ps f.is_its_key in
    let parts : f.node.parts ≡ ps = ap (λ (k : Key). k.parts) f.is_its_key in
    number_stands ns i f.node f.is_there (is.below i f.node f.is_there) ∙ (λ x. Some (node_tree (trees ns) (heads x) (parts x)))

-- each tree has one number
abbrev first_or : PlainTree → PlainTrees → PlainTree
first_or d none = d
first_or d (more t ts) = t

abbrev others : PlainTrees → PlainTrees
others none = none
others (more t ts) = ts

abbrev is_more : PlainTrees → Type 0
is_more none = ⊥
is_more (more t ts) = Unit {0}

same_parts : (ts : List PlainTree) (k l : ℕ) → ((p q : ℕ) → p < k → q < l → tree_at ts p ≡ tree_at ts q → p ≡ q) → (ps qs : List ℕ) → IsBelow k ps → IsBelow l qs → trees_of (map (tree_at ts) ps) ≡ trees_of (map (tree_at ts) qs) → ps ≡ qs
same_parts ts k l ih [] [] b c e = refl
same_parts ts k l ih [] (q ∷ qs) b c e = absurd (subst is_more (sym e) tt)
same_parts ts k l ih (p ∷ ps) [] b c e = absurd (subst is_more e tt)
same_parts ts k l ih (p ∷ ps) (q ∷ qs) b c e = λ i. ih p q b.0 c.0 (ap (first_or absent) e) i ∷ same_parts ts k l ih ps qs b.1 c.1 (ap others e) i

some_within : {X : Type 0} (xs : List X) (i : ℕ) → i < length xs → slice_get xs i ≡ None → ⊥
some_within [] i lt e = omega (arith, lt)
some_within (x ∷ xs) zero lt e = cc
some_within (x ∷ xs) (suc i) lt e = some_within xs i (omega (arith, lt)) e

pub within : (ns : List Node) (i : ℕ) → i < length (trees ns) → i < length ns
within ns i lt = let h = trees_length ns in omega (arith, h, lt)

module _ (ns : List Node) (t : BTreeMap Key ℕ) (is : IsTable ns t) where
  node_of : (i : ℕ) → i < length (trees ns) → (n : Node) × (slice_get ns i ≡ Some n)
  node_of i lt = of (slice_get ns i) refl
    where
      of : (o : Option Node) → slice_get ns i ≡ o → (n : Node) × (slice_get ns i ≡ Some n)
      of None e = absurd (some_within ns i (within ns i lt) e)
      of (Some n) e = (n, e)

  tree_is : (i : ℕ) (n : Node) → slice_get ns i ≡ Some n → tree_at (trees ns) i ≡ tree_in (trees ns) n
  tree_is i n e = get_is (trees ns) i absent (tree_in (trees ns) n) (number_stands ns i n e (is.below i n e))

  one_within : (k : ℕ) (i j : ℕ) → i < k → i < length (trees ns) → j < length (trees ns) → tree_at (trees ns) i ≡ tree_at (trees ns) j → i ≡ j
  one_within zero i j lt a b e = absurd (omega (arith, lt))
  one_within (suc k) i j lt a b e =
      let n = node_of i a in
      let m = node_of j b in
      let same = sym (tree_is i n.0 n.1) ∙ e ∙ tree_is j m.0 m.1 in
      let inner = λ (p q : ℕ) (x : p < i) (y : q < j) (same : tree_at (trees ns) p ≡ tree_at (trees ns) q). one_within k p q (omega (arith, x, lt)) (omega (arith, x, a)) (omega (arith, y, b)) same in
      let parts = same_parts (trees ns) i j inner n.0.parts m.0.parts (is.below i n.0 n.1) (is.below j m.0 m.1) (ap below_root same) in
      let keys : node_key n.0.head n.0.parts ≡ node_key m.0.head m.0.parts = λ x. node_key (ap root same x) (parts x) in
      same_Some i j (sym (is.all i n.0 n.1) ∙ ap (get key_cmp t) keys ∙ is.all j m.0 m.1)

  one_number : (i j : ℕ) → i < length (trees ns) → j < length (trees ns) → tree_at (trees ns) i ≡ tree_at (trees ns) j → i ≡ j
  one_number i j a b e = one_within (suc i) i j (omega arith) a b e

  pub once : IsOnce (trees ns)
  once i j a b e = one_number i j a b e

  module _ (i : ℕ) (lt : i < length (trees ns)) (d : Node) where
    at_number : slice_get ns i ≡ Some (slice_index_or ns i d)
    at_number = slice_get-get_or ns i d (within ns i lt)

    pub number_is : tree_at (trees ns) i ≡ tree_in (trees ns) (slice_index_or ns i d)
    number_is = tree_is i (slice_index_or ns i d) at_number

    pub number_measured : IsMeasured (slice_index_or ns i d).size (slice_index_or ns i d).depth (tree_at (trees ns) i)
    number_measured = is.measured i (slice_index_or ns i d) at_number

    pub number_bare : IsBare (trees ns) i (slice_index_or ns i d).bare
    number_bare = is.bare i (slice_index_or ns i d) at_number

    pub number_below : IsBelow i (slice_index_or ns i d).parts
    number_below = is.below i (slice_index_or ns i d) at_number

-- the parts of a table's numbers
pub nodes_below : (ns : List Node) (ps : List ℕ) → IsBelow (length (trees ns)) ps → IsBelow (length ns) ps
nodes_below ns ps b = subst (λ k. IsBelow k ps) (trees_length ns) b

pub below_at : (k : ℕ) (ns : List ℕ) (i d : ℕ) → IsBelow k ns → i < length ns → slice_index_or ns i d < k
below_at k [] i d b lt = absurd (omega (arith, lt))
below_at k (n ∷ ns) zero d b lt = b.0
below_at k (n ∷ ns) (suc i) d b lt = below_at k ns i d b.1 (omega (arith, lt))

-- the bare number of a node that was found
pub bare_found : (ns : List Node) (p : ℕ) (n d : Node) → AreBare ns → p < length ns → n ≡ slice_index_or ns p d → IsBare (trees ns) p n.bare
bare_found ns p n d bare lt is = bare p n (slice_get-get_or ns p d lt ∙ ap Some (sym is))

-- the measures of a node that was found
pub measured_found : (ns : List Node) (p : ℕ) (n d : Node) → AreMeasured ns → p < length ns → n ≡ slice_index_or ns p d → IsMeasured n.size n.depth (tree_at (trees ns) p)
measured_found ns p n d measured lt is = measured p n (slice_get-get_or ns p d lt ∙ ap Some (sym is))
