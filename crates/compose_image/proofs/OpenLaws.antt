-- What an instance leaves open is among the left imports, under its name and with its sort.
use Rattle.std.proofs.Common.{◌≡◌, ◌∙◌, ◌⊎◌, inl, inr, ℕ, zero, suc, ◌+◌, ◌<◌, Bool, true, false, cond, List, [], ◌∷◌, ◌++◌, length, Option, Some, slice_get, find, refl, sym, ap, subst, arith}
use Rattle.std.specs.Prelude.{◌==◌, bytes_eq, is_none, option_to_list}
use Rattle.std.specs.List.{All, AllByRecursion, Any, fold}
use Rattle.std.specs.Option.{option_map_or}
use Rattle.std.proofs.lemmas.Bool.{and_parts, eqb-true, or_cases}
use Rattle.std.proofs.lemmas.List.{length-map}
use Rattle.std.proofs.lemmas.List.Elements.{All-from_recursion}
use Rattle.std.proofs.lemmas.Option.{get_or_from_slice_get}
use Rattle.std.proofs.lemmas.Slice.Eq.{bytes_eq-Decides}
use Rattle.comp_format.specs.declared.types.Sort.{Sort}
use Rattle.comp_entity.specs.Entity.{EntityTree, IsType, IsFunc, IsInstance, IsComponent, IsModule, IsOwnModule, ShapeTree}
use Rattle.comp_entity.specs.Names.{Change, changing, entity_by}
use Rattle.comp_scope.specs.Spaces.{sort_of}
use Rattle.compose_agree.specs.Order.{has}
use Rattle.compose_left.specs.Merging.{agree, union}
use Rattle.compose_left.specs.Origins.{of_resource, of_type, placed}
use Rattle.compose_left.specs.Wiring.{Wiring, shape_at, wire_into}
use Rattle.compose_order.specs.Agreed.{AreOrdered, all_needs, import_at_number, in_turn, numbers_needed}
use Rattle.compose_needs.specs.Lefts.{lefts_of}
use Rattle.compose_order.specs.Needs.{LeftTree}
use Rattle.compose_check.specs.Composition.{CompositionTree, shape_numbered, wiring}
use Rattle.compose_check.specs.Checked.{IsAgreement}
use Rattle.compose_check.specs.Open.{Asked, agrees, all_agree, asked_by_all, asked_from, is_named, left_open, lefts, merged_with, with_asked}
use Rattle.compose_naming.specs.Settled.{names_of, settled, written_as}
use Rattle.compose_image.specs.Instances.{open_from, open_imports, shape_of}
use Rattle.compose_image.proofs.ListLaws.{AnyOf, all_after, all_left, all_right, any_left, any_right, any_place}
use Rattle.compose_image.proofs.OrderLaws.{is_in_order}

-- ---- sorts

changed_sort : (c : Change) (e : EntityTree) → sort_of (entity_by c 0 e) ≡ sort_of e
changed_sort c (IsType t) = refl
changed_sort c (IsFunc f) = refl
changed_sort c (IsInstance es) = refl
changed_sort c (IsComponent is es) = refl
changed_sort c (IsModule m) = refl
changed_sort c IsOwnModule = refl

pub settled_sort : (l : LeftTree) → sort_of (settled l).entity ≡ sort_of l.entity
settled_sort l = changed_sort (changing (λ n. n) (written_as (names_of l))) l.entity

union_sort : (e f : EntityTree) → sort_of (union e f) ≡ sort_of e
union_sort (IsInstance es) (IsInstance fs) = refl
union_sort e f = refl

agree_sort : (e f : EntityTree) → agree e f ≡ true → sort_of e ≡ sort_of f
agree_sort (IsType t) (IsType u) h = refl
agree_sort (IsFunc f) (IsFunc g) h = refl
agree_sort (IsInstance es) (IsInstance fs) h = refl
agree_sort (IsComponent is es) (IsComponent js fs) h = refl
agree_sort (IsModule m) (IsModule n) h = refl
agree_sort e f h = absurd cc

-- ---- what is merged

-- an import of this name and sort is among these
abbrev IsAsked : List ℕ → Sort → LeftTree → Type 0
IsAsked name kind l = (name ≡ l.name) × (sort_of l.entity ≡ kind)

abbrev pub HasImport : List LeftTree → List ℕ × EntityTree → Type 0
HasImport ls e = AnyOf (IsAsked e.0 (sort_of e.1)) ls

still_asked : (ls : List LeftTree) (x : Asked) (e : List ℕ × EntityTree) → HasImport ls e
    → HasImport (with_asked ls x) e
still_asked [] x e h = absurd h
still_asked (l ∷ ls) x e h = by (bytes_eq x.0 l.name) h (λ k. still_asked ls x e k)
  where
    by : (b : Bool) → HasImport (l ∷ ls) e → (HasImport ls e → HasImport (with_asked ls x) e)
        → HasImport (cond b (merged_with l x.1 ∷ ls) (l ∷ with_asked ls x)) e
    by true (inl k) more = inl (k.0, union_sort l.entity x.1 ∙ k.1)
    by true (inr k) more = inr k
    by false (inl k) more = inl k
    by false (inr k) more = inr (more k)

then_asked : (ls : List LeftTree) (x : Asked) → agrees ls x ≡ true → HasImport (with_asked ls x) x
then_asked [] x h = inl (refl, refl)
then_asked (l ∷ ls) x h = by (bytes_eq x.0 l.name) refl (λ k. then_asked ls x k)
  where
    now : (b : Bool) → bytes_eq x.0 l.name ≡ b
        → option_map_or (λ (m : LeftTree). agree m.entity x.1) (cond b (Some l) (find (is_named x.0) ls)) true ≡ true
    now b e =
        ap (λ b. option_map_or (λ (m : LeftTree). agree m.entity x.1) (cond b (Some l) (find (is_named x.0) ls)) true)
        (sym e)
        ∙ h

    by : (b : Bool) → bytes_eq x.0 l.name ≡ b → (agrees ls x ≡ true → HasImport (with_asked ls x) x)
        → HasImport (cond b (merged_with l x.1 ∷ ls) (l ∷ with_asked ls x)) x
    by true e more =
        inl ((bytes_eq-Decides x.0 l.name).0 e, union_sort l.entity x.1 ∙ agree_sort l.entity x.1 (now true e))
    by false e more = inr (more (now false e))

all_still : (ls : List LeftTree) (xs : List Asked) (e : List ℕ × EntityTree) → HasImport ls e
    → HasImport (fold with_asked ls xs) e
all_still ls [] e h = h
all_still ls (x ∷ xs) e h = all_still (with_asked ls x) xs e (still_asked ls x e h)

all_asked : (ls : List LeftTree) (xs : List Asked) → all_agree ls xs ≡ true
    → AllByRecursion (HasImport (fold with_asked ls xs)) xs
all_asked ls [] h = tt
all_asked ls (x ∷ xs) h =
    let parts = and_parts (agrees ls x) (all_agree (with_asked ls x) xs) h in
    (all_still (with_asked ls x) xs x (then_asked ls x parts.0), all_asked (with_asked ls x) xs parts.1)

-- ---- in an order of all

any_taken : (P : LeftTree → Type 0) (ls : List LeftTree) (order : List ℕ) (n : ℕ) (l : LeftTree) → has order n ≡ true
    → slice_get ls n ≡ Some l → P l → AnyOf P (in_turn ls order)
any_taken P ls [] n l h e p = absurd cc
any_taken P ls (m ∷ order) n l h e p = by (or_cases (m == n) (has order n) h) (λ k. any_taken P ls order n l k e p)
  where
    by : ((m == n) ≡ true) ⊎ (has order n ≡ true) → (has order n ≡ true → AnyOf P (in_turn ls order))
        → AnyOf P (import_at_number ls m ++ in_turn ls order)
    by (inl same) more =
        any_left P (import_at_number ls m) (in_turn ls order)
        (subst (λ (o : Option LeftTree). AnyOf P (option_to_list o)) (sym (ap (slice_get ls) (eqb-true m n same) ∙ e))
        (inl p))
    by (inr later) more = any_right P (import_at_number ls m) (in_turn ls order) (more later)

-- each that was merged is among those that are written
ordered : (w : Wiring) (out : List LeftTree) → AreOrdered (lefts_of w) (lefts w) out → (e : List ℕ × EntityTree)
    → HasImport (lefts w) e → HasImport out e
ordered w out o e h =
    let at = any_place (IsAsked e.0 (sort_of e.1)) (lefts w) h in
    subst (λ ls. HasImport ls e) (sym o.written) (any_taken (IsAsked e.0 (sort_of e.1)) (lefts w) o.order at.place at.x
    (is_in_order (all_needs (lefts_of w) (lefts w)) o.order o.numbered.in_order at.place
    (omega (arith, at.within, length-map (lefts w) (numbers_needed (lefts_of w) (lefts w)))))
    at.there at.has)

-- ---- what instances ask

open_of_asked : (c : CompositionTree) (P : List ℕ × EntityTree → Type 0) (i k : ℕ) (es : List Asked)
    → ((e : List ℕ × EntityTree) → P (e.0, placed (wiring c) i e.1) → P e)
    → AllByRecursion P (asked_from (wiring c) i k es) → AllByRecursion P (open_from c i k es)
open_of_asked c P i k [] f a = tt
open_of_asked c P i k (e ∷ es) f a = by (is_none (wire_into c.wires i k)) a (λ b. open_of_asked c P i (suc k) es f b)
  where
    by : (b : Bool)
        → AllByRecursion P (cond b ((e.0, placed (wiring c) i e.1) ∷ []) [] ++ asked_from (wiring c) i (suc k) es)
        → (AllByRecursion P (asked_from (wiring c) i (suc k) es) → AllByRecursion P (open_from c i (suc k) es))
        → AllByRecursion P (cond b (e ∷ []) [] ++ open_from c i (suc k) es)
    by true a more = (f e a.0, more a.1)
    by false a more = more a

asked_at : (w : Wiring) (P : Asked → Type 0) (k : ℕ) (ss : List ShapeTree) (i : ℕ)
    → AllByRecursion P (asked_by_all w k ss) → i < length ss
    → AllByRecursion P (asked_from w (k + i) 0 (shape_at ss i).imports)
asked_at w P k [] i a lt = absurd (omega (arith, lt))
asked_at w P k (s ∷ ss) zero a lt =
    subst (λ n. AllByRecursion P (asked_from w n 0 s.imports)) (by k)
    (all_left P (asked_from w k 0 s.imports) (asked_by_all w (suc k) ss) a)
  where
    by : (n : ℕ) → n ≡ n + 0
    by n = omega arith
asked_at w P k (s ∷ ss) (suc i) a lt =
    subst (λ n. AllByRecursion P (asked_from w n 0 (shape_at ss i).imports)) by
    (asked_at w P (suc k) ss i (all_right P (asked_from w k 0 s.imports) (asked_by_all w (suc k) ss) a)
    (omega (arith, lt)))
  where
    by : suc k + i ≡ k + suc i
    by = omega arith

pub open_has_import : (c : CompositionTree) (out : List LeftTree) (i : ℕ) → IsAgreement (wiring c) out
    → i < length c.instances → AllByRecursion (HasImport out) (open_imports c i)
open_has_import c out i a lt =
    open_of_asked c (HasImport out) i 0 (shape_of c i).imports
    (λ e h. subst (λ kind. AnyOf (IsAsked e.0 kind) out) (changed_sort (changing (of_resource (wiring c) i) (of_type (wiring c) i)) e.1) h)
    (subst (λ n. AllByRecursion (HasImport out) (asked_from (wiring c) n 0 (shape_of c i).imports)) (by i)
    (asked_at (wiring c) (HasImport out) 0 (wiring c).shapes i
    (all_after (HasImport (lefts (wiring c))) (HasImport out) (left_open (wiring c)) (ordered (wiring c) out a.ordered)
    (all_asked [] (left_open (wiring c)) a.merges))
    (omega (arith, lt, length-map c.instances (shape_numbered c.components)))))
  where
    by : (n : ℕ) → 0 + n ≡ n
    by n = omega arith

-- and so at a place of them
pub open_is_left : (c : CompositionTree) (out : List LeftTree) (i : ℕ) → IsAgreement (wiring c) out
    → i < length c.instances → All (λ e. Any (IsAsked e.0 (sort_of e.1)) out) (open_imports c i)
open_is_left c out i a lt =
    All-from_recursion (λ e. Any (IsAsked e.0 (sort_of e.1)) out) (open_imports c i)
    (all_after (HasImport out) (λ e. Any (IsAsked e.0 (sort_of e.1)) out) (open_imports c i) placed_at
    (open_has_import c out i a lt))
  where
    placed_at : (e : List ℕ × EntityTree) → HasImport out e → Any (IsAsked e.0 (sort_of e.1)) out
    placed_at e h =
        let at = any_place (IsAsked e.0 (sort_of e.1)) out
        h in (at.place, at.x, at.within, get_or_from_slice_get out at.place at.x at.x at.there, at.has)
