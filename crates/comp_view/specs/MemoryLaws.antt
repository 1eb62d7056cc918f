-- Laws of what lies in memory: each field of a record has a type there, and no core module of a component's own stands in
-- any entity.
use Rattle.std.specs.Prelude.{◌≡◌, ℕ, List, [], ◌∷◌, map, Option, Some, None, option_map, refl}
use Rattle.std.specs.List.{AllByRecursion}
use Rattle.std.proofs.Common.{sym, subst}
use Rattle.comp_entity.specs.declared.entity.ValueShape.{ValueShape, ValueShape-F, roll-ValueShape, map-ValueShape, fold-roll-ValueShape, ind-ValueShape}
use Rattle.comp_entity.specs.declared.entity.ValueShape.TheOpen as value_layer
use Rattle.comp_entity.specs.declared.entity.FuncShape.{FuncShape}
use Rattle.comp_entity.specs.declared.entity.TypeShape.{TypeShape, TypeShape-F, roll-TypeShape, map-TypeShape, fold-roll-TypeShape}
use Rattle.comp_entity.specs.declared.entity.InstanceShape.{InstanceShape, roll-InstanceShape, map-InstanceShape, fold-roll-InstanceShape}
use Rattle.comp_entity.specs.declared.entity.ComponentShape.{ComponentShape, roll-ComponentShape, map-ComponentShape, fold-roll-ComponentShape}
use Rattle.comp_entity.specs.declared.entity.Entity.{Entity, Entity-F, roll-Entity, map-Entity, fold-roll-Entity, ind-Entity}
use Rattle.comp_entity.specs.declared.entity.Entity.TheOpen as layer
use Rattle.comp_entity.specs.Entity.{ValueTree, EntityTree, TypeShapeTree, Entries}
use Rattle.comp_entity.specs.Views.{value_tree, func_tree, value_step, values_of, fields_of, cases_of, payload_of, entries_of, Sides, entity_step, type_step, component_step, instance_step, entity_tree, type_tree, component_sides, instance_entries}
use Rattle.comp_table.specs.Rows.{entity_plain, value_plain}
use Rattle.comp_table.specs.Shown.{IsShownType, IsShown, AreShown}
use Rattle.comp_view.specs.Fields.{HasFields, AllHaveFields, AreFields, CasesHaveFields, HeldHasFields, ResultHasFields, FuncHasFields, TypeHasFields, EntityHasFields, EntriesHaveFields}
use Rattle.comp_view.specs.KindLaws.{entity_lies, value_lies}
use Rattle.comp_view.specs.Kinds.{IsTreeOf}
use Rattle.comp_view.specs.Kinds as kind

-- value types

abbrev Lies : ValueShape → Type 0
Lies v = HasFields (value_tree v)

abbrev ValueLying : Type 0
ValueLying = (v : ValueShape) × Lies v

fields_have : (fs : List (List ℕ × ValueLying)) → AreFields (fields_of (map (λ (x : List ℕ × ValueShape). (x.0, value_tree x.1)) (map (λ (x : List ℕ × ValueLying). (x.0, x.1.0)) fs)))
fields_have [] = tt
fields_have (f ∷ fs) = (f.1.1, fields_have fs)

values_have : (ts : List ValueLying) → AllHaveFields (values_of (map value_tree (map (λ e. e.0) ts)))
values_have [] = tt
values_have (t ∷ ts) = (t.1, values_have ts)

cases_have : (f : List ℕ × Option ValueShape → List ℕ × Option ValueTree) (g : List ℕ × Option ValueLying → List ℕ × Option ValueShape) → ((l : List ℕ) → (f (g (l, None))).1 ≡ None) → ((l : List ℕ) (v : ValueLying) → (f (g (l, Some v))).1 ≡ Some (value_tree v.0)) → (cs : List (List ℕ × Option ValueLying)) → CasesHaveFields (cases_of (map f (map g cs)))
cases_have f g n s [] = tt
cases_have f g n s ((l, None) ∷ cs) = (subst (λ o. HeldHasFields (payload_of o)) (sym (n l)) tt, cases_have f g n s cs)
cases_have f g n s ((l, Some v) ∷ cs) = (subst (λ o. HeldHasFields (payload_of o)) (sym (s l v)) v.1, cases_have f g n s cs)

abbrev value_of_layer : ValueShape-F ValueLying → ValueTree
value_of_layer y = value_step (map-ValueShape ValueShape ValueTree value_tree (map-ValueShape ValueLying ValueShape (λ e. e.0) y))

layer_has : (y : ValueShape-F ValueLying) → HasFields (value_of_layer y)
layer_has (value_layer.Primitive p) = tt
layer_has (value_layer.RecordOf place fields) = fields_have fields.items
layer_has (value_layer.VariantOf place cases) = cases_have _ _ (λ l. refl) (λ l v. refl) cases.items
layer_has (value_layer.ListOf t) = t.value.1
layer_has (value_layer.TupleOf parts) = values_have parts.items
layer_has (value_layer.FlagsOf place labels) = tt
layer_has (value_layer.EnumOf place labels) = tt
layer_has (value_layer.OptionOf t) = t.value.1
layer_has (value_layer.ResultOf None None) = (tt, tt)
layer_has (value_layer.ResultOf None (Some e)) = (tt, e.value.1)
layer_has (value_layer.ResultOf (Some t) None) = (t.value.1, tt)
layer_has (value_layer.ResultOf (Some t) (Some e)) = (t.value.1, e.value.1)
layer_has (value_layer.Own r) = tt
layer_has (value_layer.Borrow r) = tt

pub value_has_fields : (v : ValueShape) → HasFields (value_tree v)
value_has_fields = ind-ValueShape Lies (λ x y is.
    subst (λ x. Lies (roll-ValueShape x)) is
    (subst HasFields (sym (fold-roll-ValueShape ValueTree value_step (map-ValueShape ValueLying ValueShape (λ e. e.0) y))) (layer_has y)))

-- functions

params_have : (ps : List (List ℕ × ValueShape)) → AllByRecursion (λ (p : List ℕ × ValueTree). HasFields p.1) (map (λ (p : List ℕ × ValueShape). (p.0, value_tree p.1)) ps)
params_have [] = tt
params_have (p ∷ ps) = (value_has_fields p.1, params_have ps)

result_has : (r : Option ValueShape) → ResultHasFields (option_map value_tree r)
result_has None = tt
result_has (Some t) = value_has_fields t

pub func_has_fields : (f : FuncShape) → FuncHasFields (func_tree f)
func_has_fields f = (params_have f.params.items, result_has f.result)

-- types and entities

abbrev EntityGood : EntityTree → Type 0
EntityGood e = IsShown e × EntityHasFields e

abbrev TypeGood : TypeShapeTree → Type 0
TypeGood t = IsShownType t × TypeHasFields t

abbrev EntriesGood : Entries → Type 0
EntriesGood es = AreShown es × EntriesHaveFields es

abbrev SidesGood : Sides → Type 0
SidesGood s = EntriesGood s.imports × EntriesGood s.exports

abbrev EntityLying : Type 0
EntityLying = (e : Entity) × EntityGood (entity_tree e)

abbrev TypeLying : Type 0
TypeLying = (t : TypeShape) × TypeGood (type_tree t)

abbrev ComponentLying : Type 0
ComponentLying = (c : ComponentShape) × SidesGood (component_sides c)

abbrev InstanceLying : Type 0
InstanceLying = (i : InstanceShape) × EntriesGood (instance_entries i)

entries_good : (es : List (List ℕ × EntityLying)) → EntriesGood (entries_of (map (λ (x : List ℕ × Entity). (x.0, entity_tree x.1)) (map (λ (x : List ℕ × EntityLying). (x.0, x.1.0)) es)))
entries_good [] = (tt, tt)
entries_good (e ∷ es) = let more = entries_good es in ((e.1.1.0, more.0), (e.1.1.1, more.1))

entity_good : (y : Entity-F EntityLying TypeLying ComponentLying InstanceLying) → EntityGood (entity_step (map-Entity Entity TypeShape ComponentShape InstanceShape EntityTree TypeShapeTree Sides Entries entity_tree type_tree component_sides instance_entries (map-Entity EntityLying TypeLying ComponentLying InstanceLying Entity TypeShape ComponentShape InstanceShape (λ e. e.0) (λ e. e.0) (λ e. e.0) (λ e. e.0) y)))
entity_good (layer.«Entity::Func» f) = (tt, func_has_fields f)
entity_good (layer.«Entity::Instance» i) = i.1
entity_good (layer.«Entity::Component» c) = ((c.1.0.0, c.1.1.0), (c.1.0.1, c.1.1.1))
entity_good (layer.Module m) = (tt, tt)
entity_good (layer.Ty t) = t.1

type_good : (y : TypeShape-F EntityLying TypeLying ComponentLying InstanceLying) → TypeGood (type_step (map-TypeShape Entity TypeShape ComponentShape InstanceShape EntityTree TypeShapeTree Sides Entries entity_tree type_tree component_sides instance_entries (map-TypeShape EntityLying TypeLying ComponentLying InstanceLying Entity TypeShape ComponentShape InstanceShape (λ e. e.0) (λ e. e.0) (λ e. e.0) (λ e. e.0) y)))
type_good (layer.Resource r) = (tt, tt)
type_good (layer.Value v) = (tt, value_has_fields v)
type_good (layer.«TypeShape::Func» f) = (tt, func_has_fields f)
type_good (layer.«TypeShape::Instance» i) = i.1
type_good (layer.«TypeShape::Component» c) = ((c.1.0.0, c.1.1.0), (c.1.0.1, c.1.1.1))

pub entity_is_good : (e : Entity) → EntityGood (entity_tree e)
entity_is_good = ind-Entity (λ e. EntityGood (entity_tree e)) (λ t. TypeGood (type_tree t)) (λ c. SidesGood (component_sides c)) (λ i. EntriesGood (instance_entries i))
    (λ x y is. subst (λ x. EntityGood (entity_tree (roll-Entity x))) is
    (subst EntityGood (sym (fold-roll-Entity EntityTree TypeShapeTree Sides Entries entity_step type_step component_step instance_step (map-Entity EntityLying TypeLying ComponentLying InstanceLying Entity TypeShape ComponentShape InstanceShape (λ e. e.0) (λ e. e.0) (λ e. e.0) (λ e. e.0) y))) (entity_good y)))
    (λ x y is. subst (λ x. TypeGood (type_tree (roll-TypeShape x))) is
    (subst TypeGood (sym (fold-roll-TypeShape EntityTree TypeShapeTree Sides Entries entity_step type_step component_step instance_step (map-TypeShape EntityLying TypeLying ComponentLying InstanceLying Entity TypeShape ComponentShape InstanceShape (λ e. e.0) (λ e. e.0) (λ e. e.0) (λ e. e.0) y))) (type_good y)))
    (λ x y is. subst (λ x. SidesGood (component_sides (roll-ComponentShape x))) is
    (subst SidesGood (sym (fold-roll-ComponentShape EntityTree TypeShapeTree Sides Entries entity_step type_step component_step instance_step (map-ComponentShape EntityLying TypeLying ComponentLying InstanceLying Entity TypeShape ComponentShape InstanceShape (λ e. e.0) (λ e. e.0) (λ e. e.0) (λ e. e.0) y))) (entries_good y.imports.items, entries_good y.exports.items)))
    (λ x y is. subst (λ x. EntriesGood (instance_entries (roll-InstanceShape x))) is
    (subst EntriesGood (sym (fold-roll-InstanceShape EntityTree TypeShapeTree Sides Entries entity_step type_step component_step instance_step (map-InstanceShape EntityLying TypeLying ComponentLying InstanceLying Entity TypeShape ComponentShape InstanceShape (λ e. e.0) (λ e. e.0) (λ e. e.0) (λ e. e.0) y))) (entries_good y.exports.items)))

-- the trees of heads of what lies in memory are of what can lie there
pub entity_in_memory : (e : Entity) → IsTreeOf kind.AnyEntity (entity_plain e)
entity_in_memory e = let good = entity_is_good e in entity_lies (entity_tree e) good.0 good.1

pub value_in_memory : (v : ValueShape) → IsTreeOf kind.ValueType (value_plain v)
value_in_memory v = value_lies (value_tree v) (value_has_fields v)
