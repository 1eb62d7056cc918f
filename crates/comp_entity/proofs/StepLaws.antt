-- Loops over imports and exports, as far as they have come.
use Rattle.std.proofs.Common.{◌≡◌, ℕ, zero, suc, ◌+◌, ◌<◌, Bool, true, false, cond, ◌&&◌, List, [], ◌∷◌, ◌++◌, length, drop, slice_index_or, refl, sym, ap, ◌∙◌, arith, Option, Some, None}
use Rattle.std.specs.Option.{is_some}
use Rattle.std.specs.Str.{bytes_eq}
use Rattle.comp_entity.specs.Entity.{Name, EntityTree}
use Rattle.comp_entity.specs.Fits.{Stands, ForResource, ForPlace, same_name, under, resource_for}
use Rattle.comp_entity.specs.Views.{entity_tree, entries_of, named_entities}
use Rattle.comp_entity.specs.Comparing.{export_suits, exports_suit, export_stands, exports_stand}
use Rattle.comp_entity.specs.declared.naming.Naming.{Naming}
use Rattle.comp_entity.specs.declared.entity.Entity.{Entity}

-- what a loop has left: the item at hand, and those behind it
pub left : {X : Type 0} (xs : List X) (i : ℕ) (x : X) → i < length xs → x ≡ slice_index_or xs i x → drop i xs ≡ x ∷ drop (i + 1) xs
left xs i x lt is = let next : suc i ≡ i + 1 = omega arith in at xs i x lt is ∙ ap (λ j. x ∷ drop j xs) next
  where
    at : {X : Type 0} (xs : List X) (i : ℕ) (x : X) → i < length xs → x ≡ slice_index_or xs i x → drop i xs ≡ x ∷ drop (suc i) xs
    at [] i x lt is = absurd (omega (arith, lt))
    at (y ∷ xs) zero x lt is = λ k. sym is k ∷ xs
    at (y ∷ xs) (suc i) x lt is = at xs i x (omega (arith, lt)) is

pub nothing_left : {X : Type 0} (xs : List X) (i : ℕ) → i ≡ length xs → drop i xs ≡ []
nothing_left [] zero e = refl
nothing_left [] (suc i) e = absurd (omega (arith, e))
nothing_left (x ∷ xs) zero e = absurd (omega (arith, e))
nothing_left (x ∷ xs) (suc i) e = nothing_left xs i (omega (arith, e))

-- the first that stands for a name, among what stands in two lists
found_first : (ss ts : List Stands) (n : Name) (r : Name) → resource_for ss n ≡ Some r → resource_for (ss ++ ts) n ≡ Some r
found_first [] ts n r e = absurd cc
found_first (ForResource asked given ∷ ss) ts n r e = of (same_name asked n) e (found_first ss ts n r)
  where
    of : (b : Bool) → cond b (Some given) (resource_for ss n) ≡ Some r → (resource_for ss n ≡ Some r → resource_for (ss ++ ts) n ≡ Some r) → cond b (Some given) (resource_for (ss ++ ts) n) ≡ Some r
    of true e f = e
    of false e f = f e
found_first (ForPlace asked given ∷ ss) ts n r e = found_first ss ts n r e

none_first : (ss ts : List Stands) (n : Name) → resource_for ss n ≡ None → resource_for (ss ++ ts) n ≡ resource_for ts n
none_first [] ts n e = refl
none_first (ForResource asked given ∷ ss) ts n e = of (same_name asked n) e (none_first ss ts n)
  where
    of : (b : Bool) → cond b (Some given) (resource_for ss n) ≡ None → (resource_for ss n ≡ None → resource_for (ss ++ ts) n ≡ resource_for ts n) → cond b (Some given) (resource_for (ss ++ ts) n) ≡ resource_for ts n
    of true e f = absurd cc
    of false e f = f e
none_first (ForPlace asked given ∷ ss) ts n e = none_first ss ts n e

module _ (given asked : List (List ℕ × Entity)) (i : ℕ) (x : List ℕ × Entity) (lt : i < length asked) (is : x ≡ slice_index_or asked i x) (n : Name) where
  here : exports_stand given (drop i asked) ≡ export_stands given x.0 x.1 ++ exports_stand given (drop (i + 1) asked)
  here = ap (exports_stand given) (left asked i x lt is)

  pub stands_later : (all : Option Name) → resource_for (export_stands given x.0 x.1) n ≡ None → resource_for (exports_stand given (drop i asked)) n ≡ all → resource_for (exports_stand given (drop (i + 1) asked)) n ≡ all
  stands_later all e h = sym (none_first (export_stands given x.0 x.1) (exports_stand given (drop (i + 1) asked)) n e) ∙ ap (λ ss. resource_for ss n) (sym here) ∙ h

  pub stands_first : (all o : Option Name) → o ≡ resource_for (export_stands given x.0 x.1) n → true ≡ is_some o → resource_for (exports_stand given (drop i asked)) n ≡ all → o ≡ all
  stands_first all None e some h = absurd cc
  stands_first all (Some r) e some h = sym (found_first (export_stands given x.0 x.1) (exports_stand given (drop (i + 1) asked)) n r (sym e)) ∙ ap (λ ss. resource_for ss n) (sym here) ∙ h

pub none_is : {X : Type 0} (o : Option X) → false ≡ is_some o → o ≡ None
none_is None e = refl
none_is (Some x) e = absurd cc

pub stands_nowhere : (given asked : List (List ℕ × Entity)) (i : ℕ) (n : Name) (all : Option Name) → i ≡ length asked → resource_for (exports_stand given (drop i asked)) n ≡ all → None ≡ all
stands_nowhere given asked i n all e h = ap (λ xs. resource_for (exports_stand given xs) n) (sym (nothing_left asked i e)) ∙ h

module _ (w : Naming) (given asked : List (List ℕ × Entity)) (i : ℕ) where
  pub suits_later : (x : List ℕ × Entity) → i < length asked → x ≡ slice_index_or asked i x → (all : Bool) → export_suits w given x.0 x.1 ≡ true → exports_suit w given (drop i asked) ≡ all → exports_suit w given (drop (i + 1) asked) ≡ all
  suits_later x lt is all e h = ap (λ b. b && exports_suit w given (drop (i + 1) asked)) (sym e) ∙ ap (exports_suit w given) (sym (left asked i x lt is)) ∙ h

  pub suits_not : (x : List ℕ × Entity) → i < length asked → x ≡ slice_index_or asked i x → (all : Bool) → export_suits w given x.0 x.1 ≡ false → exports_suit w given (drop i asked) ≡ all → false ≡ all
  suits_not x lt is all e h = ap (λ b. b && exports_suit w given (drop (i + 1) asked)) (sym e) ∙ ap (exports_suit w given) (sym (left asked i x lt is)) ∙ h

  pub suits_all : (all : Bool) → i ≡ length asked → exports_suit w given (drop i asked) ≡ all → true ≡ all
  suits_all all e h = ap (exports_suit w given) (sym (nothing_left asked i e)) ∙ h

-- the first entry of a name
module _ (name : List ℕ) (xs : List (List ℕ × Entity)) (i : ℕ) where
  pub under_later : (x : List ℕ × Entity) → i < length xs → x ≡ slice_index_or xs i x → (all : Option (EntityTree × Bool)) → bytes_eq name x.0 ≡ false → under name (entries_of (named_entities (drop i xs))) ≡ all → under name (entries_of (named_entities (drop (i + 1) xs))) ≡ all
  under_later x lt is all e h = ap (λ b. cond b (Some (entity_tree x.1, true)) (under name (entries_of (named_entities (drop (i + 1) xs))))) (sym e) ∙ ap (λ ys. under name (entries_of (named_entities ys))) (sym (left xs i x lt is)) ∙ h

  pub under_here : (x : List ℕ × Entity) → i < length xs → x ≡ slice_index_or xs i x → (all : Option (EntityTree × Bool)) → bytes_eq name x.0 ≡ true → under name (entries_of (named_entities (drop i xs))) ≡ all → all ≡ Some (entity_tree x.1, true)
  under_here x lt is all e h = sym h ∙ ap (λ ys. under name (entries_of (named_entities ys))) (left xs i x lt is) ∙ ap (λ b. cond b (Some (entity_tree x.1, true)) (under name (entries_of (named_entities (drop (i + 1) xs))))) e

  pub under_nowhere : (all : Option (EntityTree × Bool)) → i ≡ length xs → under name (entries_of (named_entities (drop i xs))) ≡ all → all ≡ None
  under_nowhere all e h = sym h ∙ ap (λ ys. under name (entries_of (named_entities ys))) (nothing_left xs i e)
