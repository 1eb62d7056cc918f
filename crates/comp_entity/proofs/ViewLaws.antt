-- What values, entities and namings mean, by cases.
use Rattle.std.proofs.Common.{◌≡◌, ℕ, suc, Bool, ◌&&◌, List, map, Option, Some, None, refl, sym, ap, ◌∙◌, true, false}
use Rattle.std.specs.Global.{Global}
use Rattle.std.specs.Borrow.{Bor}
use Rattle.std.specs.Prelude.{option_map, Vec}
use Rattle.std.specs.Cmp.Lexicographic.{pointwise}
use Rattle.std.specs.Option.{option_eq}
use Rattle.comp_entity.specs.declared.entity.ValueShape.{ValueShape, fold-roll-ValueShape}
use Rattle.comp_entity.specs.declared.entity.ValueShape.TheOpen as value_layer
use Rattle.comp_entity.specs.declared.entity.ValueShape.TheVariants as value
use Rattle.comp_entity.specs.declared.entity.FuncShape.{FuncShape}
use Rattle.comp_entity.specs.declared.entity.InstanceShape.{InstanceShape, fold-roll-InstanceShape}
use Rattle.comp_entity.specs.declared.entity.ComponentShape.{ComponentShape, fold-roll-ComponentShape}
use Rattle.comp_entity.specs.declared.entity.TypeShape.{fold-roll-TypeShape}
use Rattle.comp_entity.specs.declared.entity.TypeShape.TheVariants as type
use Rattle.comp_entity.specs.declared.entity.Entity.{Entity, fold-roll-Entity}
use Rattle.comp_entity.specs.declared.entity.Entity.TheOpen as layer
use Rattle.comp_entity.specs.declared.entity.Entity.TheVariants as entity
use Rattle.comp_entity.specs.declared.naming.Naming.{Naming, fold-roll-Naming}
use Rattle.comp_entity.specs.declared.naming.Naming.TheOpen as naming_layer
use Rattle.comp_entity.specs.declared.naming.Naming.TheVariants as naming
use Rattle.comp_entity.specs.Entity.{Name, ValueTree, RecordOf, VariantOf, TupleOf, TypeShapeTree, Instance, EntityTree, IsInstance, Entries}
use Rattle.comp_entity.specs.NameLaws.{entity_kept, unchanged}
use Rattle.comp_entity.specs.Names.{value_by, changing, entries_by, type_by, entity_by}
use Rattle.comp_entity.specs.Fits.{same_name, values_equal, entries_equal, types_equal, entities_equal, equal, fits, stands, resource_for, fits_with}
use Rattle.comp_entity.specs.Views.{value_tree, value_step, values_of, fields_of, cases_of, entries_of, named_entities, Sides, entity_step, type_step, component_step, instance_step, entity_tree, type_tree, component_sides, instance_entries}
use Rattle.comp_entity.specs.Comparing.{Looking, looking, naming_step, change_of, scopes_of, value_alike, field_alike, case_alike, func_alike, entry_alike, entity_alike, type_alike, component_alike, sides_alike, entity_suits, exports_suit, exports_stand}
use Rattle.comp_entity.proofs.ListLaws.{parts_are, fields_are, cases_are, params_are, results_are, entries_are}

-- values

record_is : (p : Option Name) (fs : Vec (List ℕ × ValueShape) Global) → value_tree (value.RecordOf p fs) ≡ RecordOf p (fields_of (map (λ x. (x.0, value_tree x.1)) fs.items))
record_is p fs = ap value_tree (sym (value.rolls-RecordOf p fs)) ∙ fold-roll-ValueShape ValueTree value_step (value_layer.RecordOf p fs)

case_mapped : (f : List ℕ × Option ValueShape → List ℕ × Option ValueTree) → ((l : List ℕ) → f (l, None) ≡ (l, None)) → ((l : List ℕ) (v : ValueShape) → f (l, Some v) ≡ (l, Some (value_tree v))) → (l : List ℕ) (o : Option ValueShape) → f (l, o) ≡ (l, option_map value_tree o)
case_mapped f n s l None = n l
case_mapped f n s l (Some v) = s l v

cases_mapped : (f : List ℕ × Option ValueShape → List ℕ × Option ValueTree) → ((l : List ℕ) → f (l, None) ≡ (l, None)) → ((l : List ℕ) (v : ValueShape) → f (l, Some v) ≡ (l, Some (value_tree v))) → (p : Option Name) (xs : List (List ℕ × Option ValueShape)) (t : ValueTree) → t ≡ VariantOf p (cases_of (map f xs)) → t ≡ VariantOf p (cases_of (map (λ x. (x.0, option_map value_tree x.1)) xs))
cases_mapped f n s p xs t e = e ∙ ap (λ (g : List ℕ × Option ValueShape → List ℕ × Option ValueTree). VariantOf p (cases_of (map g xs))) (λ i x. case_mapped f n s x.0 x.1 i)

variant_is : (p : Option Name) (fs : Vec (List ℕ × Option ValueShape) Global) → value_tree (value.VariantOf p fs) ≡ VariantOf p (cases_of (map (λ x. (x.0, option_map value_tree x.1)) fs.items))
variant_is p fs = cases_mapped _ (λ l. refl) (λ l v. refl) p fs.items (value_tree (value.VariantOf p fs)) (ap value_tree (sym (value.rolls-VariantOf p fs)) ∙ fold-roll-ValueShape ValueTree value_step (value_layer.VariantOf p fs))

tuple_is : (ts : Vec ValueShape Global) → value_tree (value.TupleOf ts) ≡ TupleOf (values_of (map value_tree ts.items))
tuple_is ts = ap value_tree (sym (value.rolls-TupleOf ts)) ∙ fold-roll-ValueShape ValueTree value_step (value_layer.TupleOf ts)

module _ (n : Naming) where
  pub records_are : (p q : Option Name) (fs gs : Vec (List ℕ × ValueShape) Global) → value_alike n (value.RecordOf p fs) (value.RecordOf q gs) ≡ pointwise (field_alike n) fs.items gs.items
  records_are p q fs gs = (λ i. values_equal same_name (record_is p fs i) (value_by (change_of n) (scopes_of n) (record_is q gs i))) ∙ fields_are n fs.items gs.items

  pub variants_are : (p q : Option Name) (fs gs : Vec (List ℕ × Option ValueShape) Global) → value_alike n (value.VariantOf p fs) (value.VariantOf q gs) ≡ pointwise (case_alike n) fs.items gs.items
  variants_are p q fs gs = (λ i. values_equal same_name (variant_is p fs i) (value_by (change_of n) (scopes_of n) (variant_is q gs i))) ∙ cases_are n fs.items gs.items

  pub tuples_are : (ts us : Vec ValueShape Global) → value_alike n (value.TupleOf ts) (value.TupleOf us) ≡ pointwise (value_alike n) ts.items us.items
  tuples_are ts us = (λ i. values_equal same_name (tuple_is ts i) (value_by (change_of n) (scopes_of n) (tuple_is us i))) ∙ parts_are n ts.items us.items

  pub funcs_are : (f g : FuncShape) → func_alike n f g ≡ (pointwise (field_alike n) f.params.items g.params.items && option_eq (value_alike n) f.result g.result)
  funcs_are f g = λ i. params_are n f.params.items g.params.items i && results_are n f.result g.result i

pub both_true : (b x r : Bool) → b ≡ true → r ≡ x → r ≡ (b && x)
both_true true x r e h = h
both_true false x r e h = absurd cc

pub first_false : (b x r : Bool) → b ≡ false → r ≡ b → r ≡ (b && x)
first_false true x r e h = absurd cc
first_false false x r e h = h

-- entities

instance_is : (t : InstanceShape) → instance_entries t ≡ entries_of (named_entities t.exports.items)
instance_is t = fold-roll-InstanceShape EntityTree TypeShapeTree Sides Entries entity_step type_step component_step instance_step (record { exports = t.exports })

component_is : (t : ComponentShape) → component_sides t ≡ record { imports = entries_of (named_entities t.imports.items); exports = entries_of (named_entities t.exports.items) }
component_is t = fold-roll-ComponentShape EntityTree TypeShapeTree Sides Entries entity_step type_step component_step instance_step (record { imports = t.imports; exports = t.exports })

pub entity_instance : (t : InstanceShape) → entity_tree (entity.Instance t) ≡ IsInstance (entries_of (named_entities t.exports.items))
entity_instance t = ap entity_tree (sym (entity.rolls-Instance t)) ∙ fold-roll-Entity EntityTree TypeShapeTree Sides Entries entity_step type_step component_step instance_step (layer.«Entity::Instance» t) ∙ ap IsInstance (instance_is t)

pub type_instance : (t : InstanceShape) → type_tree (type.Instance t) ≡ Instance (entries_of (named_entities t.exports.items))
type_instance t = ap type_tree (sym (type.rolls-Instance t)) ∙ fold-roll-TypeShape EntityTree TypeShapeTree Sides Entries entity_step type_step component_step instance_step (layer.«TypeShape::Instance» t) ∙ ap Instance (instance_is t)

pub instances_stand : (g a : InstanceShape) (n : Name) → resource_for (stands (entity_tree (entity.Instance g)) (entity_tree (entity.Instance a))) n ≡ resource_for (exports_stand g.exports.items a.exports.items) n
instances_stand g a n = λ i. resource_for (stands (entity_instance g i) (entity_instance a i)) n

within_is : (b : Bor Naming) → looking (naming.Within b) ≡ record { scopes = suc (looking b.now).scopes; name = (looking b.now).name }
within_is b = ap looking (sym (naming.rolls-Within b)) ∙ fold-roll-Naming Looking naming_step (naming_layer.Within b)

module _ (n : Naming) where
  pub instances_equal : (g a : InstanceShape) → entity_alike n (entity.Instance g) (entity.Instance a) ≡ pointwise (entry_alike n) g.exports.items a.exports.items
  instances_equal g a = (λ i. entities_equal same_name (entity_instance g i) (entity_by (change_of n) (scopes_of n) (entity_instance a i))) ∙ entries_are n g.exports.items a.exports.items

  pub instances_suit : (g a : InstanceShape) → entity_suits n (entity.Instance g) (entity.Instance a) ≡ exports_suit n g.exports.items a.exports.items
  instances_suit g a = λ i. fits_with same_name (entity_instance g i) (entity_by (change_of n) (scopes_of n) (entity_instance a i))

within_entries : (b : Bor Naming) (xs ys : List (List ℕ × Entity)) → entries_equal same_name (entries_of (named_entities xs)) (entries_by (change_of b.now) (suc (scopes_of b.now)) (entries_of (named_entities ys))) ≡ pointwise (entry_alike (naming.Within b)) xs ys
within_entries b xs ys = ap (λ (l : Looking). entries_equal same_name (entries_of (named_entities xs)) (entries_by (changing l.name (λ n. n)) l.scopes (entries_of (named_entities ys)))) (sym (within_is b)) ∙ entries_are (naming.Within b) xs ys

pub types_of_instances : (b : Bor Naming) (g a : InstanceShape) → type_alike b.now (type.Instance g) (type.Instance a) ≡ pointwise (entry_alike (naming.Within b)) g.exports.items a.exports.items
types_of_instances b g a = (λ i. types_equal same_name (type_instance g i) (type_by (change_of b.now) (scopes_of b.now) (type_instance a i))) ∙ within_entries b g.exports.items a.exports.items

twice_within : (b c : Bor Naming) → c.now ≡ naming.Within b → looking (naming.Within c) ≡ record { scopes = suc (suc (looking b.now).scopes); name = (looking b.now).name }
twice_within b c e = within_is c ∙ ap (λ (l : Looking). record { scopes = suc l.scopes; name = l.name }) (ap looking e ∙ within_is b)

component_entries : (b c : Bor Naming) → c.now ≡ naming.Within b → (xs ys : List (List ℕ × Entity)) → entries_equal same_name (entries_of (named_entities xs)) (entries_by (change_of b.now) (suc (suc (scopes_of b.now))) (entries_of (named_entities ys))) ≡ pointwise (entry_alike (naming.Within c)) xs ys
component_entries b c e xs ys = ap (λ (l : Looking). entries_equal same_name (entries_of (named_entities xs)) (entries_by (changing l.name (λ n. n)) l.scopes (entries_of (named_entities ys)))) (sym (twice_within b c e)) ∙ entries_are (naming.Within c) xs ys

pub components_are : (b c : Bor Naming) → c.now ≡ naming.Within b → (g a : ComponentShape) → component_alike b.now g a ≡ sides_alike (naming.Within c) g a
components_are b c e g a =
    (λ i. entries_equal same_name (component_is g i).imports (entries_by (change_of b.now) (suc (suc (scopes_of b.now))) (component_is a i).imports)
    && entries_equal same_name (component_is g i).exports (entries_by (change_of b.now) (suc (suc (scopes_of b.now))) (component_is a i).exports))
    ∙ (λ i. component_entries b c e g.imports.items a.imports.items i && component_entries b c e g.exports.items a.exports.items i)

same_is : looking naming.Same ≡ record { scopes = 0; name = λ n. n }
same_is = ap looking (sym naming.rolls-Same) ∙ fold-roll-Naming Looking naming_step naming_layer.Same

standing_is : (g a : Bor Entity) → looking (naming.Standing g a) ≡ naming_step (naming_layer.Standing g a)
standing_is g a = ap looking (sym (naming.rolls-Standing g a)) ∙ fold-roll-Naming Looking naming_step (naming_layer.Standing g a)

pub fits_are : (g a : Bor Entity) → entity_suits (naming.Standing g a) g.now a.now ≡ fits (entity_tree g.now) (entity_tree a.now)
fits_are g a = ap (λ (l : Looking). fits_with same_name (entity_tree g.now) (entity_by (changing l.name (λ n. n)) l.scopes (entity_tree a.now))) (standing_is g a)

pub equal_are : (a b : Entity) → entity_alike naming.Same a b ≡ equal (entity_tree a) (entity_tree b)
equal_are a b = ap (λ (l : Looking). entities_equal same_name (entity_tree a) (entity_by (changing l.name (λ n. n)) l.scopes (entity_tree b))) same_is ∙ ap (entities_equal same_name (entity_tree a)) (entity_kept (changing (λ n. n) (λ n. n)) unchanged 0 (entity_tree b))
