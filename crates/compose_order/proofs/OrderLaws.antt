-- Names of imports, and their order.
use Rattle.std.proofs.Common.{◌≡◌, ℕ, zero, suc, ◌+◌, ◌<◌, ◌≤◌, Bool, true, false, cond, List, [], ◌∷◌, ◌++◌, length, map, take, drop, slice_index_or, get_or, append_assoc, Option, Some, None, refl, sym, ap, subst, ◌∙◌, arith, inr}
use Rattle.std.specs.Prelude.{MatchOption, is_some, nat_eq, option_to_list, slice_get, Vec}
use Rattle.std.specs.Global.{Global}
use Rattle.std.specs.List.{AllByRecursion, IsDistinct, range_with_len}
use Rattle.std.specs.BTreeMap.{BTreeMap, Updates, get}
use Rattle.std.specs.Ordering.{nat_cmp, is_eq}
use Rattle.std.specs.Cmp.{unsigned_ties}
use Rattle.std.proofs.lemmas.Bool.{eq-eqb, eqb-true}
use Rattle.std.proofs.lemmas.List.{drop_more, map-append, take_more}
use Rattle.std.proofs.lemmas.Option.{same_Some}
use Rattle.comp_entity.specs.declared.entity.Entity.{Entity}
use Rattle.comp_entity.specs.Views.{entries_of, named_entities}
use Rattle.compose_agree.specs.LetterCase.{AreApart}
use Rattle.compose_agree.specs.Order.{IsOrder, IsStuck, Takes, all_of, is_ready, needs_of}
use Rattle.compose_order.specs.Agreed.{AreExportsApart, NoClash, entry_names, import_at_number, in_turn, name_of}
use Rattle.compose_order.specs.Known.{AreNumbers, AreThere, HoldsBetween, IsCaseClashOf, IsExportClashOf, IsHeld, left_tree}
use Rattle.compose_order.specs.Needs.{LeftTree}
use Rattle.compose_order.specs.declared.left.LeftImport.{LeftImport}

-- ---- names

pub names_are : (es : List (List ℕ × Entity)) → map (λ (e : List ℕ × Entity). e.0) es ≡ entry_names (entries_of (named_entities es))
names_are [] = refl
names_are (e ∷ es) = ap (λ ns. e.0 ∷ ns) (names_are es)

pub import_names : (ls : List LeftImport) → map (λ (l : LeftImport). l.name) ls ≡ map name_of (map left_tree ls)
import_names [] = refl
import_names (l ∷ ls) = ap (λ ns. l.name ∷ ns) (import_names ls)

pub split_at : (ls : List LeftImport) (i : ℕ) (l : LeftImport) → i < length ls → l ≡ slice_index_or ls i l → map left_tree ls ≡ map left_tree (take i ls) ++ left_tree l ∷ map left_tree (drop (i + 1) ls)
split_at ls i l lt is = let next : i + 1 ≡ suc i = omega arith in at ls i lt is ∙ ap (λ j. map left_tree (take i ls) ++ left_tree l ∷ map left_tree (drop j ls)) (sym next)
  where
    at : (ls : List LeftImport) (i : ℕ) → i < length ls → l ≡ slice_index_or ls i l → map left_tree ls ≡ map left_tree (take i ls) ++ left_tree l ∷ map left_tree (drop (suc i) ls)
    at [] i lt is = absurd (omega (arith, lt))
    at (k ∷ ls) zero lt is = ap (λ m. left_tree m ∷ map left_tree ls) (sym is)
    at (k ∷ ls) (suc i) lt is = ap (λ ms. left_tree k ∷ ms) (at ls i (omega (arith, lt)) is)

pub clash_or : (ls : List LeftTree) (o : Option (List ℕ × List ℕ)) → AreApart (map name_of ls) → MatchOption o (AreExportsApart ls) (IsExportClashOf ls) → MatchOption o (NoClash ls) (IsCaseClashOf ls)
clash_or ls None apart h = (apart, h)
clash_or ls (Some c) apart h = inr (apart, h)

-- ---- the order

pub all_split : {X : Type 0} (P : X → Type 0) (xs ys : List X) → AllByRecursion P (xs ++ ys) → AllByRecursion P xs × AllByRecursion P ys
all_split P [] ys h = (tt, h)
all_split P (x ∷ xs) ys h = let rest = all_split P xs ys h.1 in ((h.0, rest.0), rest.1)

all_join : {X : Type 0} (P : X → Type 0) (xs ys : List X) → AllByRecursion P xs → AllByRecursion P ys → AllByRecursion P (xs ++ ys)
all_join P [] ys a b = b
all_join P (x ∷ xs) ys a b = (a.0, all_join P xs ys a.1 b)

takes_kept : {X : Type 0} (P : X → Type 0) (ready : List X → X → Bool) (done left taken rest : List X) → AllByRecursion P left → Takes ready done left taken rest → AllByRecursion P rest
takes_kept P ready done left [] rest all h = subst (λ xs. AllByRecursion P xs) h all
takes_kept P ready done left (x ∷ taken) rest all h =
    let parts = all_split P h.0 (x ∷ h.1) (subst (λ xs. AllByRecursion P xs) h.2 all) in
    takes_kept P ready (done ++ x ∷ []) (h.0 ++ h.1) taken rest (all_join P h.0 h.1 parts.0 parts.1.1) h.5

range_below : (n k m : ℕ) → n + k ≤ m → AllByRecursion (λ i. i < m) (range_with_len n k)
range_below n zero m le = tt
range_below n (suc k) m le = (omega (arith, le), range_below (n + 1) k m (omega (arith, le)))

-- the first that has no place is there
pub stuck_below : (needs : List (List ℕ)) (n : ℕ) → IsStuck (is_ready needs) (all_of needs) n → n < length needs
stuck_below needs n s =
    let below : AllByRecursion (λ i. i < length needs) (n ∷ s.rest) = takes_kept (λ i. i < length needs) (is_ready needs) [] (all_of needs) s.taken (n ∷ s.rest) (range_below 0 (length needs) (length needs) (omega arith)) s.takes in
    below.0

-- what is taken was left, and stands once where that did
takes_among : {X : Type 0} (P : X → Type 0) (ready : List X → X → Bool) (done left taken rest : List X) → AllByRecursion P left → Takes ready done left taken rest → AllByRecursion P taken
takes_among P ready done left [] rest all h = tt
takes_among P ready done left (x ∷ taken) rest all h =
    let parts = all_split P h.0 (x ∷ h.1) (subst (λ xs. AllByRecursion P xs) h.2 all) in
    (parts.1.0, takes_among P ready (done ++ x ∷ []) (h.0 ++ h.1) taken rest (all_join P h.0 h.1 parts.0 parts.1.1) h.5)

differs : (x y : ℕ) → nat_eq x y ≡ false → nat_eq y x ≡ false
differs x y e = one (nat_eq y x) refl
  where
    one : (b : Bool) → nat_eq y x ≡ b → b ≡ false
    one true is = sym (eq-eqb x y (sym (eqb-true y x is))) ∙ e
    one false is = refl

-- without one of them, the others are still apart, and from this one too
without : (front back : List ℕ) (x : ℕ) → IsDistinct nat_eq (front ++ x ∷ back) → AllByRecursion (λ y. nat_eq x y ≡ false) (front ++ back) × IsDistinct nat_eq (front ++ back)
unfolding IsDistinct
without [] back x once = once
without (y ∷ front) back x once =
    let later = without front back x once.1 in
    let parts = all_split (λ z. nat_eq y z ≡ false) front (x ∷ back) once.0 in
    ((differs y x parts.1.0, later.0), (all_join (λ z. nat_eq y z ≡ false) front back parts.0 parts.1.1, later.1))

takes_once : (ready : List ℕ → ℕ → Bool) (done left taken rest : List ℕ) → IsDistinct nat_eq left → Takes ready done left taken rest → IsDistinct nat_eq taken
unfolding IsDistinct
takes_once ready done left [] rest once h = tt
takes_once ready done left (x ∷ taken) rest once h =
    let others = without h.0 h.1 x (subst (λ xs. IsDistinct nat_eq xs) h.2 once) in
    (takes_among (λ y. nat_eq x y ≡ false) ready (done ++ x ∷ []) (h.0 ++ h.1) taken rest others.0 h.5, takes_once ready (done ++ x ∷ []) (h.0 ++ h.1) taken rest others.1 h.5)

range_above : (m n k : ℕ) → m < n → AllByRecursion (λ i. nat_eq m i ≡ false) (range_with_len n k)
range_above m n zero lt = tt
range_above m n (suc k) lt = (one (nat_eq m n) refl, range_above m (n + 1) k (omega (arith, lt)))
  where
    one : (b : Bool) → nat_eq m n ≡ b → b ≡ false
    one true is = let same : m ≡ n = eqb-true m n is in absurd (omega (arith, lt, same))
    one false is = refl

range_once : (n k : ℕ) → IsDistinct nat_eq (range_with_len n k)
unfolding IsDistinct
range_once n zero = tt
range_once n (suc k) = (range_above n (n + 1) k (omega arith), range_once (n + 1) k)

-- an order is of the numbers that there are, each once
pub order_numbers : (needs : List (List ℕ)) (order : List ℕ) → IsOrder (is_ready needs) (all_of needs) order → AreNumbers (length needs) order
order_numbers needs order h = record {
  below = takes_among (λ i. i < length needs) (is_ready needs) [] (all_of needs) order [] (range_below 0 (length needs) (length needs) (omega arith)) h;
  once = takes_once (is_ready needs) [] (all_of needs) order [] (range_once 0 (length needs)) h;
}

pub length-needs : (ns : List (Vec ℕ Global)) → length (needs_of ns) ≡ length ns
length-needs [] = refl
length-needs (n ∷ ns) = ap suc (length-needs ns)

-- ---- imports by number

same_numbers : (k n : ℕ) → is_eq (nat_cmp k n) ≡ true → k ≡ n
same_numbers k n e = eqb-true k n (unsigned_ties k n ∙ e)

pub there_more : (old new : BTreeMap ℕ LeftImport) (ls : List LeftTree) (k : ℕ) (l : LeftImport) → AreThere old ls → Updates nat_cmp old new k (Some l) → slice_get ls k ≡ Some (left_tree l) → AreThere new ls
there_more old new ls k l h u at n m got = one (is_eq (nat_cmp k n)) refl (sym (u.0 n) ∙ got)
  where
    one : (b : Bool) → is_eq (nat_cmp k n) ≡ b → cond b (Some l) (get nat_cmp old n) ≡ Some m → slice_get ls n ≡ Some (left_tree m)
    one true e is = ap (λ j. slice_get ls j) (sym (same_numbers k n e)) ∙ at ∙ ap (λ x. Some (left_tree x)) (same_Some l m is)
    one false e is = h n m is

pub there_less : (old new : BTreeMap ℕ LeftImport) (ls : List LeftTree) (k : ℕ) → AreThere old ls → Updates nat_cmp old new k None → AreThere new ls
there_less old new ls k h u n m got = one (is_eq (nat_cmp k n)) (sym (u.0 n) ∙ got)
  where
    one : (b : Bool) → cond b None (get nat_cmp old n) ≡ Some m → slice_get ls n ≡ Some (left_tree m)
    one true is = absurd cc
    one false is = h n m is

no_truth : true ≡ false → ⊥
no_truth e = absurd cc

-- the number of an import that is added, and those that were there
pub held_more : (old new : BTreeMap ℕ LeftImport) (k n : ℕ) (l : LeftImport) → Updates nat_cmp old new k (Some l) → ((k ≡ n → ⊥) → IsHeld old n) → IsHeld new n
held_more old new k n l u further = ap is_some (u.0 n) ∙ one (is_eq (nat_cmp k n)) refl
  where
    one : (b : Bool) → is_eq (nat_cmp k n) ≡ b → is_some (cond b (Some l) (get nat_cmp old n)) ≡ true
    one true e = refl
    one false e = further (λ same. no_truth (sym (sym (unsigned_ties k n) ∙ eq-eqb k n same) ∙ e))

-- what is taken out leaves the others
pub held_less : (old new : BTreeMap ℕ LeftImport) (k : ℕ) (ns : List ℕ) → Updates nat_cmp old new k None → AllByRecursion (λ n. nat_eq k n ≡ false) ns → AllByRecursion (IsHeld old) ns → AllByRecursion (IsHeld new) ns
held_less old new k [] u apart held = tt
held_less old new k (n ∷ ns) u apart held =
    (ap is_some (u.0 n ∙ ap (λ b. cond b None (get nat_cmp old n)) (sym (unsigned_ties k n) ∙ apart.0)) ∙ held.0, held_less old new k ns u apart.1 held.1)

-- all numbers below an end are held
pub each_held : (slots : BTreeMap ℕ LeftImport) (end : ℕ) (ns : List ℕ) → HoldsBetween slots 0 end → AllByRecursion (λ n. n < end) ns → AllByRecursion (IsHeld slots) ns
each_held slots end [] all below = tt
each_held slots end (n ∷ ns) all below = (all n (omega arith) below.0, each_held slots end ns all below.1)

pub length_push : {X : Type 0} (xs : List X) (x : X) → length (xs ++ x ∷ []) ≡ suc (length xs)
length_push [] x = refl
length_push (y ∷ xs) x = ap suc (length_push xs x)

-- an import is added in front of those of greater numbers
pub held_down : (old new : BTreeMap ℕ LeftImport) (k place first end : ℕ) (l : LeftImport) → Updates nat_cmp old new k (Some l) → first ≡ suc k → k ≡ place → HoldsBetween old first end → HoldsBetween new place end
held_down old new k place first end l u next same all n le lt = held_more old new k n l u (λ other. all n (above n le other) lt)
  where
    above : (n : ℕ) → place ≤ n → (k ≡ n → ⊥) → first ≤ n
    above n le other = omega (arith, next, same, le, other)

-- the next number, and those behind it
pub held_next : (slots : BTreeMap ℕ LeftImport) (order : List ℕ) (i d : ℕ) → i < length order → AllByRecursion (IsHeld slots) (drop i order) → IsHeld slots (get_or order i d) × AllByRecursion (IsHeld slots) (drop (i + 1) order)
held_next slots order i d lt held = subst (λ ns. AllByRecursion (IsHeld slots) ns) (drop_more order i d lt) held

pub once_next : (order : List ℕ) (i d : ℕ) → i < length order → IsDistinct nat_eq (drop i order) → AllByRecursion (λ n. nat_eq (get_or order i d) n ≡ false) (drop (i + 1) order) × IsDistinct nat_eq (drop (i + 1) order)
unfolding IsDistinct
once_next order i d lt once = subst (λ ns. IsDistinct nat_eq ns) (drop_more order i d lt) once

pub not_gone : (slots : BTreeMap ℕ LeftImport) (n : ℕ) → IsHeld slots n → get nat_cmp slots n ≡ None → ⊥
not_gone slots n held gone = no_truth (sym held ∙ ap is_some gone)

at_last : (xs rest : List LeftImport) (x : LeftImport) → slice_get (map left_tree (xs ++ x ∷ rest)) (length xs) ≡ Some (left_tree x)
at_last [] rest x = refl
at_last (y ∷ xs) rest x = at_last xs rest x

-- the last one has been taken
pub last_there : (all old new rest : List LeftImport) (x : LeftImport) (k : ℕ) → old ≡ new ++ x ∷ [] → old ++ rest ≡ all → k ≡ length new → (new ++ x ∷ rest ≡ all) × (slice_get (map left_tree all) k ≡ Some (left_tree x))
last_there all old new rest x k is e at =
    let whole : new ++ x ∷ rest ≡ all = sym (append_assoc new (x ∷ []) rest) ∙ ap (λ xs. xs ++ rest) (sym is) ∙ e in
    (whole, (λ i. slice_get (map left_tree (sym whole i)) (at i)) ∙ at_last new rest x)

turn_push : (ls : List LeftTree) (ns : List ℕ) (n : ℕ) (l : LeftTree) → slice_get ls n ≡ Some l → in_turn ls (ns ++ n ∷ []) ≡ in_turn ls ns ++ l ∷ []
turn_push ls [] n l e = ap (λ o. option_to_list o ++ []) e
turn_push ls (m ∷ ns) n l e = ap (λ xs. import_at_number ls m ++ xs) (turn_push ls ns n l e) ∙ sym (append_assoc (import_at_number ls m) (in_turn ls ns) (l ∷ []))

pub turn_more : (ls : List LeftTree) (order : List ℕ) (i d : ℕ) (out new : List LeftImport) (x : LeftImport) → i < length order → map left_tree out ≡ in_turn ls (take i order) → new ≡ out ++ x ∷ [] → slice_get ls (get_or order i d) ≡ Some (left_tree x)
    → map left_tree new ≡ in_turn ls (take (i + 1) order)
turn_more ls order i d out new x lt h is at =
    ap (map left_tree) is ∙ map-append left_tree out (x ∷ []) ∙ ap (λ ys. ys ++ left_tree x ∷ []) h
    ∙ sym (ap (in_turn ls) (take_more order i d lt) ∙ turn_push ls (take i order) (get_or order i d) (left_tree x) at)
