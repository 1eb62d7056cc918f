-- Parts, fields, cases and parameters, compared as lists.
use Rattle.std.proofs.Common.{◌≡◌, ℕ, ◌&&◌, List, [], ◌∷◌, map, Option, Some, None, refl, ap}
use Rattle.std.specs.Prelude.{option_map}
use Rattle.std.specs.Cmp.Lexicographic.{pointwise}
use Rattle.std.specs.Option.{option_eq}
use Rattle.std.specs.Str.{bytes_eq}
use Rattle.comp_entity.specs.Entity.{ValueTree}
use Rattle.comp_entity.specs.Names.{value_by, values_by, cases_by, payload_by, entries_by}
use Rattle.comp_entity.specs.Fits.{same_name, values_equal, all_equal, cases_equal, payloads_equal, params_equal, entries_equal}
use Rattle.comp_entity.specs.Views.{value_tree, values_of, fields_of, cases_of, payload_of, entries_of, named_entities}
use Rattle.comp_entity.specs.Comparing.{change_of, scopes_of, value_alike, field_alike, case_alike, entry_alike}
use Rattle.comp_entity.specs.declared.naming.Naming.{Naming}
use Rattle.comp_entity.specs.declared.entity.ValueShape.{ValueShape}
use Rattle.comp_entity.specs.declared.entity.Entity.{Entity}

module _ (n : Naming) where
  pub parts_are : (xs ys : List ValueShape) → all_equal same_name (values_of (map value_tree xs)) (values_by (change_of n) (scopes_of n) (values_of (map value_tree ys))) ≡ pointwise (value_alike n) xs ys
  parts_are [] [] = refl
  parts_are [] (y ∷ ys) = refl
  parts_are (x ∷ xs) [] = refl
  parts_are (x ∷ xs) (y ∷ ys) = ap (λ b. value_alike n x y && b) (parts_are xs ys)

  pub fields_are : (xs ys : List (List ℕ × ValueShape)) → cases_equal same_name (fields_of (map (λ x. (x.0, value_tree x.1)) xs)) (cases_by (change_of n) (scopes_of n) (fields_of (map (λ y. (y.0, value_tree y.1)) ys))) ≡ pointwise (field_alike n) xs ys
  fields_are [] [] = refl
  fields_are [] (y ∷ ys) = refl
  fields_are (x ∷ xs) [] = refl
  fields_are (x ∷ xs) (y ∷ ys) = ap (λ b. field_alike n x y && b) (fields_are xs ys)

  held_is : (x y : Option ValueShape) → payloads_equal same_name (payload_of (option_map value_tree x)) (payload_by (change_of n) (scopes_of n) (payload_of (option_map value_tree y))) ≡ option_eq (value_alike n) x y
  held_is None None = refl
  held_is None (Some y) = refl
  held_is (Some x) None = refl
  held_is (Some x) (Some y) = refl

  pub cases_are : (xs ys : List (List ℕ × Option ValueShape)) → cases_equal same_name (cases_of (map (λ x. (x.0, option_map value_tree x.1)) xs)) (cases_by (change_of n) (scopes_of n) (cases_of (map (λ y. (y.0, option_map value_tree y.1)) ys))) ≡ pointwise (case_alike n) xs ys
  cases_are [] [] = refl
  cases_are [] (y ∷ ys) = refl
  cases_are (x ∷ xs) [] = refl
  cases_are (x ∷ xs) (y ∷ ys) = (λ i. bytes_eq x.0 y.0 && held_is x.1 y.1 i && cases_are xs ys i)

  pub params_are : (xs ys : List (List ℕ × ValueShape)) → pointwise (params_equal same_name) (map (λ x. (x.0, value_tree x.1)) xs) (map (λ (p : List ℕ × ValueTree). (p.0, value_by (change_of n) (scopes_of n) p.1)) (map (λ y. (y.0, value_tree y.1)) ys)) ≡ pointwise (field_alike n) xs ys
  params_are [] [] = refl
  params_are [] (y ∷ ys) = refl
  params_are (x ∷ xs) [] = refl
  params_are (x ∷ xs) (y ∷ ys) = ap (λ b. field_alike n x y && b) (params_are xs ys)

  pub entries_are : (xs ys : List (List ℕ × Entity)) → entries_equal same_name (entries_of (named_entities xs)) (entries_by (change_of n) (scopes_of n) (entries_of (named_entities ys))) ≡ pointwise (entry_alike n) xs ys
  entries_are [] [] = refl
  entries_are [] (y ∷ ys) = refl
  entries_are (x ∷ xs) [] = refl
  entries_are (x ∷ xs) (y ∷ ys) = ap (λ b. entry_alike n x y && b) (entries_are xs ys)

  pub results_are : (x y : Option ValueShape) → option_eq (values_equal same_name) (option_map value_tree x) (option_map (value_by (change_of n) (scopes_of n)) (option_map value_tree y)) ≡ option_eq (value_alike n) x y
  results_are None None = refl
  results_are None (Some y) = refl
  results_are (Some x) None = refl
  results_are (Some x) (Some y) = refl
