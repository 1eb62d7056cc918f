-- Types of values with changed names, by cases.
use Rattle.std.proofs.Common.{◌≡◌, ℕ, List, [], ◌∷◌, map, Option, Some, None, refl, sym, ap, ◌∙◌}
use Rattle.std.specs.Global.{Global}
use Rattle.std.specs.Prelude.{option_map, Vec}
use Rattle.comp_entity.specs.declared.entity.ValueShape.{ValueShape, fold-roll-ValueShape}
use Rattle.comp_entity.specs.declared.entity.ValueShape.TheOpen as value_layer
use Rattle.comp_entity.specs.declared.entity.ValueShape.TheVariants as value
use Rattle.comp_entity.specs.Entity.{Name, ValueTree, RecordOf, VariantOf, TupleOf, more, labelled, present}
use Rattle.comp_entity.specs.Names.{Change, place_by, value_by, values_by, cases_by, payload_by}
use Rattle.comp_entity.specs.Views.{value_tree, value_step, values_of, payload_of, fields_of, cases_of}
use Rattle.compose_left.specs.Renaming.{field_tree, field_by, case_tree, case_by}

record_is : (p : Option Name) (fs : Vec (List ℕ × ValueShape) Global) → value_tree (value.RecordOf p fs) ≡ RecordOf p (fields_of (map field_tree fs.items))
record_is p fs = ap value_tree (sym (value.rolls-RecordOf p fs)) ∙ fold-roll-ValueShape ValueTree value_step (value_layer.RecordOf p fs)

case_mapped : (f : List ℕ × Option ValueShape → List ℕ × Option ValueTree) → ((l : List ℕ) → f (l, None) ≡ (l, None)) → ((l : List ℕ) (v : ValueShape) → f (l, Some v) ≡ (l, Some (value_tree v))) → (l : List ℕ) (o : Option ValueShape) → f (l, o) ≡ (l, option_map value_tree o)
case_mapped f n s l None = n l
case_mapped f n s l (Some v) = s l v

cases_mapped : (f : List ℕ × Option ValueShape → List ℕ × Option ValueTree) → ((l : List ℕ) → f (l, None) ≡ (l, None)) → ((l : List ℕ) (v : ValueShape) → f (l, Some v) ≡ (l, Some (value_tree v))) → (p : Option Name) (xs : List (List ℕ × Option ValueShape)) (t : ValueTree) → t ≡ VariantOf p (cases_of (map f xs)) → t ≡ VariantOf p (cases_of (map case_tree xs))
cases_mapped f n s p xs t e = e ∙ ap (λ (g : List ℕ × Option ValueShape → List ℕ × Option ValueTree). VariantOf p (cases_of (map g xs))) (λ i x. case_mapped f n s x.0 x.1 i)

variant_is : (p : Option Name) (fs : Vec (List ℕ × Option ValueShape) Global) → value_tree (value.VariantOf p fs) ≡ VariantOf p (cases_of (map case_tree fs.items))
variant_is p fs = cases_mapped _ (λ l. refl) (λ l v. refl) p fs.items (value_tree (value.VariantOf p fs)) (ap value_tree (sym (value.rolls-VariantOf p fs)) ∙ fold-roll-ValueShape ValueTree value_step (value_layer.VariantOf p fs))

tuple_is : (ts : Vec ValueShape Global) → value_tree (value.TupleOf ts) ≡ TupleOf (values_of (map value_tree ts.items))
tuple_is ts = ap value_tree (sym (value.rolls-TupleOf ts)) ∙ fold-roll-ValueShape ValueTree value_step (value_layer.TupleOf ts)

module _ (c : Change) (d : ℕ) where
  fields_by_is : (xs : List (List ℕ × ValueTree)) → cases_by c d (fields_of xs) ≡ fields_of (map (field_by c d) xs)
  fields_by_is [] = refl
  fields_by_is (x ∷ xs) = ap (labelled x.0 (present (value_by c d x.1))) (fields_by_is xs)

  payload_by_is : (o : Option ValueTree) → payload_by c d (payload_of o) ≡ payload_of (option_map (value_by c d) o)
  payload_by_is None = refl
  payload_by_is (Some t) = refl

  cases_by_is : (xs : List (List ℕ × Option ValueTree)) → cases_by c d (cases_of xs) ≡ cases_of (map (case_by c d) xs)
  cases_by_is [] = refl
  cases_by_is (x ∷ xs) = λ i. labelled x.0 (payload_by_is x.1 i) (cases_by_is xs i)

  parts_by_is : (xs : List ValueTree) → values_by c d (values_of xs) ≡ values_of (map (value_by c d) xs)
  parts_by_is [] = refl
  parts_by_is (x ∷ xs) = ap (more (value_by c d x)) (parts_by_is xs)

  pub record_in : (p q : Option Name) (fs gs : Vec (List ℕ × ValueShape) Global) → q ≡ place_by c d p → map field_tree gs.items ≡ map (field_by c d) (map field_tree fs.items) → value_tree (value.RecordOf q gs) ≡ value_by c d (value_tree (value.RecordOf p fs))
  record_in p q fs gs e h = record_is q gs ∙ (λ i. RecordOf (e i) (fields_of (h i))) ∙ ap (RecordOf (place_by c d p)) (sym (fields_by_is (map field_tree fs.items))) ∙ ap (value_by c d) (sym (record_is p fs))

  pub variant_in : (p q : Option Name) (fs gs : Vec (List ℕ × Option ValueShape) Global) → q ≡ place_by c d p → map case_tree gs.items ≡ map (case_by c d) (map case_tree fs.items) → value_tree (value.VariantOf q gs) ≡ value_by c d (value_tree (value.VariantOf p fs))
  variant_in p q fs gs e h = variant_is q gs ∙ (λ i. VariantOf (e i) (cases_of (h i))) ∙ ap (VariantOf (place_by c d p)) (sym (cases_by_is (map case_tree fs.items))) ∙ ap (value_by c d) (sym (variant_is p fs))

  pub tuple_in : (fs gs : Vec ValueShape Global) → map value_tree gs.items ≡ map (value_by c d) (map value_tree fs.items) → value_tree (value.TupleOf gs) ≡ value_by c d (value_tree (value.TupleOf fs))
  tuple_in fs gs h = tuple_is gs ∙ (λ i. TupleOf (values_of (h i))) ∙ ap TupleOf (sym (parts_by_is (map value_tree fs.items))) ∙ ap (value_by c d) (sym (tuple_is fs))
