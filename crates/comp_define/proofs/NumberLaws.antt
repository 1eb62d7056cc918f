-- Laws of imports and exports of a scope that numbers what it makes otherwise.
use Rattle.std.specs.Prelude.{◌≡◌, ℕ, ◌+◌, Bool, true, false, cond, not, ◌||◌, ◌==◌, nat_lt, List, [], ◌∷◌, ◌++◌, map, flat_map, length, Some, None, unwrap_or, refl}
use Rattle.std.specs.List.{list_any, fold, position_or_len}
use Rattle.std.proofs.Common.{sym, ◌∙◌, ap}
use Rattle.std.proofs.lemmas.Bool.{eqb-true, eq-eqb}
use Rattle.std.proofs.lemmas.List.{length-map, map-append}
use Rattle.comp_entity.specs.Entity.{Name, made, EntityTree, Entries}
use Rattle.comp_entity.specs.Names.{Change, changing, entity_by, entries_by, in_entity, place_at, resource_at}
use Rattle.comp_entity.specs.Views.{Sides}
use Rattle.comp_define.specs.OtherNumbers.{IsOneToOne, numbered_by, with_other_numbers}
use Rattle.comp_mention.specs.Mentions.{tree_mentions}
use Rattle.comp_scope.specs.Closing.{first_mentions, mentions_in, numbered, renumbered, with_numbers}
use Rattle.comp_table.specs.Changes.{tree_by}
use Rattle.comp_table.specs.Plain.{plain_entity}
use Rattle.comp_define.proofs.OtherLaws.{change, places_other, resources_other, side_twice}

no_truth : {A : Type 0} → true ≡ false → A
no_truth h = absurd cc

-- ---- numbers, each once

module _ (f : ℕ → ℕ) (one : IsOneToOne f) where
  same_test : (m n : ℕ) → (f m == f n) ≡ (m == n)
  same_test m n = by (f m == f n) refl (m == n) refl
    where
      by : (x : Bool) → (f m == f n) ≡ x → (y : Bool) → (m == n) ≡ y → x ≡ y
      by true e true h = refl
      by false e false h = refl
      by true e false h = no_truth (sym (eq-eqb m n (one m n (eqb-true (f m) (f n) e))) ∙ h)
      by false e true h = no_truth (sym (eq-eqb (f m) (f n) (ap f (eqb-true m n h))) ∙ e)

  any_same : (n : ℕ) (seen : List ℕ) → list_any (λ m. m == f n) (map f seen) ≡ list_any (λ m. m == n) seen
  any_same n [] = refl
  any_same n (m ∷ seen) = λ i. same_test m n i || any_same n seen i

  abbrev with_one : List ℕ → ℕ → List ℕ
  with_one seen n = cond (list_any (λ m. m == n) seen) seen (seen ++ n ∷ [])

  one_more : (seen : List ℕ) (n : ℕ) → with_one (map f seen) (f n) ≡ map f (with_one seen n)
  one_more seen n = ap (λ b. cond b (map f seen) (map f seen ++ f n ∷ [])) (any_same n seen) ∙ by (list_any (λ m. m == n) seen)
    where
      by : (b : Bool) → cond b (map f seen) (map f seen ++ f n ∷ []) ≡ map f (cond b seen (seen ++ n ∷ []))
      by true = refl
      by false = sym (map-append f seen (n ∷ []))

  all_more : (seen ns : List ℕ) → fold with_one (map f seen) (map f ns) ≡ map f (fold with_one seen ns)
  all_more seen [] = refl
  all_more seen (n ∷ ns) = ap (λ s. fold with_one s (map f ns)) (one_more seen n) ∙ all_more (with_one seen n) ns

  -- first mentions of other numbers
  pub first_same : (ns : List ℕ) → first_mentions (map f ns) ≡ map f (first_mentions ns)
  first_same ns = all_more [] ns

  place_or_length : (n : ℕ) (order : List ℕ) → position_or_len (λ m. m == f n) (map f order) ≡ position_or_len (λ m. m == n) order
  place_or_length n [] = refl
  place_or_length n (m ∷ order) = λ i. cond (not (same_test m n i)) (1 + place_or_length n order i) 0

  abbrev place_of : ℕ → ℕ → ℕ
  place_of place count = unwrap_or (cond (nat_lt place count) (Some place) None) count

  -- their numbers in the order of first mention
  pub renumbered_same : (order : List ℕ) (n : Name) → renumbered (map f order) (numbered_by f n) ≡ renumbered order n
  renumbered_same order n = by (n.out == 0) refl
    where
      same_place : place_of (position_or_len (λ m. m == f n.number) (map f order)) (length (map f order)) ≡ place_of (position_or_len (λ m. m == n.number) order) (length order)
      same_place = λ i. place_of (place_or_length n.number order i) (length-map order f i)

      by : (b : Bool) → (n.out == 0) ≡ b → renumbered (map f order) (cond b (made (f n.number)) n) ≡ renumbered order n
      by true is = ap made same_place ∙ ap (λ b. cond b (made (place_of (position_or_len (λ m. m == n.number) order) (length order))) n) (sym is)
      by false is = ap (λ b. cond b (made (place_of (position_or_len (λ m. m == n.number) (map f order)) (length (map f order)))) n) is ∙ ap (λ b. cond b (made (place_of (position_or_len (λ m. m == n.number) order) (length order))) n) (sym is)

-- ---- imports and exports in other numbers

module _ (f g : ℕ → ℕ) (one : IsOneToOne f) (each : IsOneToOne g)
    (changed : (c : Change) (d : ℕ) (e : EntityTree) → plain_entity (entity_by c d e) ≡ tree_by c d (plain_entity e))
    (mention : (d : ℕ) (e : EntityTree) → tree_mentions d (plain_entity e) ≡ in_entity d e)
    (single : (a b : EntityTree) → plain_entity a ≡ plain_entity b → a ≡ b) where
  resources_first : (s : Sides) → first_mentions (flat_map (resource_at 0) (mentions_in (with_other_numbers f g s))) ≡ map f (first_mentions (flat_map (resource_at 0) (mentions_in s)))
  resources_first s = ap first_mentions (resources_other changed mention single f g s) ∙ first_same f one (flat_map (resource_at 0) (mentions_in s))

  places_first : (s : Sides) → first_mentions (flat_map (place_at 0) (mentions_in (with_other_numbers f g s))) ≡ map g (first_mentions (flat_map (place_at 0) (mentions_in s)))
  places_first s = ap first_mentions (places_other changed mention single f g s) ∙ first_same g each (flat_map (place_at 0) (mentions_in s))

  side_same : (resources places : List ℕ) (es : Entries) → entries_by (changing (renumbered (map f resources)) (renumbered (map g places))) 0 (entries_by (change f g) 0 es) ≡ entries_by (changing (renumbered resources) (renumbered places)) 0 es
  side_same resources places es =
      side_twice changed mention single (renumbered (map f resources)) (renumbered (map g places)) (numbered_by f) (numbered_by g) es
      ∙ (λ i. entries_by (changing (λ n. renumbered_same f one resources n i) (λ n. renumbered_same g each places n i)) 0 es)

  pub forgotten : (s : Sides) → numbered (with_other_numbers f g s) ≡ numbered s
  forgotten s =
      let resources = first_mentions (flat_map (resource_at 0) (mentions_in s)) in
      let places = first_mentions (flat_map (place_at 0) (mentions_in s)) in
      (λ i. with_numbers (resources_first s i) (places_first s i) (with_other_numbers f g s))
      ∙ (λ i. record { imports = side_same resources places s.imports i; exports = side_same resources places s.exports i })
