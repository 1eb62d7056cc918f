-- What values and entities mention, by cases.
use Rattle.std.proofs.Common.{◌≡◌, ℕ, suc, ◌+◌, ◌&&◌, List, [], ◌∷◌, ◌++◌, map, Option, Some, None, refl, sym, ap, ◌∙◌, arith, append_assoc}
use Rattle.std.specs.Global.{Global}
use Rattle.std.specs.Prelude.{Box, flat_map, is_some, option_map, Vec}
use Rattle.comp_entity.specs.declared.entity.ValueShape.{ValueShape, fold-roll-ValueShape}
use Rattle.comp_entity.specs.declared.entity.ValueShape.TheOpen as value_layer
use Rattle.comp_entity.specs.declared.entity.ValueShape.TheVariants as value
use Rattle.comp_entity.specs.declared.entity.InstanceShape.{InstanceShape, fold-roll-InstanceShape}
use Rattle.comp_entity.specs.declared.entity.ComponentShape.{ComponentShape, fold-roll-ComponentShape}
use Rattle.comp_entity.specs.declared.entity.TypeShape.{fold-roll-TypeShape}
use Rattle.comp_entity.specs.declared.entity.TypeShape.TheVariants as type
use Rattle.comp_entity.specs.declared.entity.Entity.{fold-roll-Entity}
use Rattle.comp_entity.specs.declared.entity.Entity.TheOpen as layer
use Rattle.comp_entity.specs.declared.entity.Entity.TheVariants as entity
use Rattle.comp_entity.specs.Entity.{Name, ValueTree, RecordOf, VariantOf, TupleOf, ResultOf, TypeShapeTree, Instance, EntityTree, IsInstance, Entries}
use Rattle.comp_entity.specs.Names.{Mention, at_place, in_cases, in_payload, in_value, in_values}
use Rattle.comp_entity.specs.Views.{value_tree, value_step, values_of, fields_of, cases_of, entries_of, named_entities, Sides, entity_step, type_step, component_step, instance_step, entity_tree, type_tree, component_sides, instance_entries}
use Rattle.compose_left.specs.Renaming.{case_tree, field_tree}
use Rattle.compose_left.specs.declared.spots.Thing.{Thing}
use Rattle.compose_needs.specs.Mentioned.{outward, outwards}
use Rattle.compose_needs.specs.Payloads.{boxed_payload, in_field}

pub record_is : (p : Option Name) (fs : Vec (List ℕ × ValueShape) Global) → value_tree (value.RecordOf p fs) ≡ RecordOf p (fields_of (map field_tree fs.items))
record_is p fs = ap value_tree (sym (value.rolls-RecordOf p fs)) ∙ fold-roll-ValueShape ValueTree value_step (value_layer.RecordOf p fs)

case_mapped : (f : List ℕ × Option ValueShape → List ℕ × Option ValueTree) → ((l : List ℕ) → f (l, None) ≡ (l, None)) → ((l : List ℕ) (v : ValueShape) → f (l, Some v) ≡ (l, Some (value_tree v))) → (l : List ℕ) (o : Option ValueShape) → f (l, o) ≡ (l, option_map value_tree o)
case_mapped f n s l None = n l
case_mapped f n s l (Some v) = s l v

cases_mapped : (f : List ℕ × Option ValueShape → List ℕ × Option ValueTree) → ((l : List ℕ) → f (l, None) ≡ (l, None)) → ((l : List ℕ) (v : ValueShape) → f (l, Some v) ≡ (l, Some (value_tree v))) → (p : Option Name) (xs : List (List ℕ × Option ValueShape)) (t : ValueTree) → t ≡ VariantOf p (cases_of (map f xs)) → t ≡ VariantOf p (cases_of (map case_tree xs))
cases_mapped f n s p xs t e = e ∙ ap (λ (g : List ℕ × Option ValueShape → List ℕ × Option ValueTree). VariantOf p (cases_of (map g xs))) (λ i x. case_mapped f n s x.0 x.1 i)

pub variant_is : (p : Option Name) (fs : Vec (List ℕ × Option ValueShape) Global) → value_tree (value.VariantOf p fs) ≡ VariantOf p (cases_of (map case_tree fs.items))
variant_is p fs = cases_mapped _ (λ l. refl) (λ l v. refl) p fs.items (value_tree (value.VariantOf p fs)) (ap value_tree (sym (value.rolls-VariantOf p fs)) ∙ fold-roll-ValueShape ValueTree value_step (value_layer.VariantOf p fs))

pub tuple_is : (ts : Vec ValueShape Global) → value_tree (value.TupleOf ts) ≡ TupleOf (values_of (map value_tree ts.items))
tuple_is ts = ap value_tree (sym (value.rolls-TupleOf ts)) ∙ fold-roll-ValueShape ValueTree value_step (value_layer.TupleOf ts)

fields_are : (d : ℕ) (xs : List (List ℕ × ValueTree)) → in_cases d (fields_of xs) ≡ flat_map (in_field d) xs
fields_are d [] = refl
fields_are d (x ∷ xs) = ap (λ ms. in_value d x.1 ++ ms) (fields_are d xs)

pub record_mentions : (d : ℕ) (p : Option Name) (fs : Vec (List ℕ × ValueShape) Global) → in_value d (value_tree (value.RecordOf p fs)) ≡ at_place d p ++ flat_map (in_field d) (map field_tree fs.items)
record_mentions d p fs = ap (in_value d) (record_is p fs) ∙ ap (λ ms. at_place d p ++ ms) (fields_are d (map field_tree fs.items))

pub variant_mentions : (d : ℕ) (p : Option Name) (fs : Vec (List ℕ × Option ValueShape) Global) → in_value d (value_tree (value.VariantOf p fs)) ≡ at_place d p ++ in_cases d (cases_of (map case_tree fs.items))
variant_mentions d p fs = ap (in_value d) (variant_is p fs)

pub tuple_mentions : (d : ℕ) (ts : Vec ValueShape Global) → in_value d (value_tree (value.TupleOf ts)) ≡ in_values d (values_of (map value_tree ts.items))
tuple_mentions d ts = ap (in_value d) (tuple_is ts)

-- entities

pub instance_is : (t : InstanceShape) → instance_entries t ≡ entries_of (named_entities t.exports.items)
instance_is t = fold-roll-InstanceShape EntityTree TypeShapeTree Sides Entries entity_step type_step component_step instance_step (record { exports = t.exports })

pub component_is : (t : ComponentShape) → component_sides t ≡ record { imports = entries_of (named_entities t.imports.items); exports = entries_of (named_entities t.exports.items) }
component_is t = fold-roll-ComponentShape EntityTree TypeShapeTree Sides Entries entity_step type_step component_step instance_step (record { imports = t.imports; exports = t.exports })

pub entity_instance : (t : InstanceShape) → entity_tree (entity.Instance t) ≡ IsInstance (entries_of (named_entities t.exports.items))
entity_instance t = ap entity_tree (sym (entity.rolls-Instance t)) ∙ fold-roll-Entity EntityTree TypeShapeTree Sides Entries entity_step type_step component_step instance_step (layer.«Entity::Instance» t) ∙ ap IsInstance (instance_is t)

pub type_instance : (t : InstanceShape) → type_tree (type.Instance t) ≡ Instance (entries_of (named_entities t.exports.items))
type_instance t = ap type_tree (sym (type.rolls-Instance t)) ∙ fold-roll-TypeShape EntityTree TypeShapeTree Sides Entries entity_step type_step component_step instance_step (layer.«TypeShape::Instance» t) ∙ ap Instance (instance_is t)

-- ---- mentions that are added one after the other

outwards-append : (ms ns : List (ℕ × Mention)) → outwards (ms ++ ns) ≡ outwards ms ++ outwards ns
outwards-append [] ns = refl
outwards-append (m ∷ ms) ns = ap (λ ts. outward m ++ ts) (outwards-append ms ns) ∙ sym (append_assoc (outward m) (outwards ms) (outwards ns))

pub added_two : (a b c : List Thing) (ms ns all : List (ℕ × Mention)) → b ≡ a ++ outwards ms → c ≡ b ++ outwards ns → all ≡ ms ++ ns → c ≡ a ++ outwards all
added_two a b c ms ns all first second is =
    second ∙ ap (λ ts. ts ++ outwards ns) first ∙ append_assoc a (outwards ms) (outwards ns) ∙ ap (λ ts. a ++ ts) (sym (outwards-append ms ns) ∙ sym (ap outwards is))

result_is : (ok err : Option (Box ValueShape Global)) → value_tree (value.ResultOf ok err) ≡ ResultOf (boxed_payload ok) (boxed_payload err)
result_is None None = ap value_tree (sym (value.rolls-ResultOf None None)) ∙ fold-roll-ValueShape ValueTree value_step (value_layer.ResultOf None None)
result_is None (Some e) = ap value_tree (sym (value.rolls-ResultOf None (Some e))) ∙ fold-roll-ValueShape ValueTree value_step (value_layer.ResultOf None (Some e))
result_is (Some o) None = ap value_tree (sym (value.rolls-ResultOf (Some o) None)) ∙ fold-roll-ValueShape ValueTree value_step (value_layer.ResultOf (Some o) None)
result_is (Some o) (Some e) = ap value_tree (sym (value.rolls-ResultOf (Some o) (Some e))) ∙ fold-roll-ValueShape ValueTree value_step (value_layer.ResultOf (Some o) (Some e))

pub result_mentions : (d : ℕ) (ok err : Option (Box ValueShape Global)) → in_value d (value_tree (value.ResultOf ok err)) ≡ in_payload d (boxed_payload ok) ++ in_payload d (boxed_payload err)
result_mentions d ok err = ap (in_value d) (result_is ok err)

pub next : (d n : ℕ) → n ≡ d + 1 → n ≡ suc d
next d n e = omega (arith, e)
