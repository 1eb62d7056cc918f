-- Laws of entities in memory: each entry has the naming bit there.
use Rattle.std.specs.Prelude.{◌≡◌, ℕ, suc, List, [], ◌∷◌, map, true, refl}
use Rattle.std.proofs.Common.{ap, sym, subst}
use Rattle.comp_entity.specs.declared.entity.TypeShape.{TypeShape, TypeShape-F, roll-TypeShape, map-TypeShape, fold-roll-TypeShape}
use Rattle.comp_entity.specs.declared.entity.InstanceShape.{InstanceShape, roll-InstanceShape, map-InstanceShape, fold-roll-InstanceShape}
use Rattle.comp_entity.specs.declared.entity.ComponentShape.{ComponentShape, roll-ComponentShape, map-ComponentShape, fold-roll-ComponentShape}
use Rattle.comp_entity.specs.declared.entity.Entity.{Entity, Entity-F, roll-Entity, map-Entity, fold-roll-Entity, ind-Entity}
use Rattle.comp_entity.specs.declared.entity.Entity.TheOpen as layer
use Rattle.comp_entity.specs.Entity.{EntityTree, TypeShapeTree, Entries}
use Rattle.comp_entity.specs.Views.{value_tree, func_tree, entries_of, Sides, entity_step, type_step, component_step, instance_step, entity_tree, type_tree, component_sides, instance_entries}
use Rattle.comp_table.specs.Changes.{tree_by, trees_by}
use Rattle.comp_table.specs.declared.head.Head.TheVariants as head
use Rattle.comp_table.specs.Plain.{around, around_two, plain_type, plain_entity, plain_entries}
use Rattle.comp_table.specs.Trees.{tree, more}
use Rattle.comp_view.specs.Kinds.{all_named}
use Rattle.comp_view.proofs.NamedLaws.{value_same, func_same, module_same}

abbrev EntitySame : EntityTree → Type 0
EntitySame e = (d : ℕ) → tree_by all_named d (plain_entity e) ≡ plain_entity e

abbrev TypeSame : TypeShapeTree → Type 0
TypeSame t = (d : ℕ) → tree_by all_named d (plain_type t) ≡ plain_type t

abbrev EntriesSame : Entries → Type 0
EntriesSame es = (d : ℕ) → trees_by all_named d (plain_entries es) ≡ plain_entries es

abbrev SidesSame : Sides → Type 0
SidesSame s = EntriesSame s.imports × EntriesSame s.exports

abbrev EntityNamed : Type 0
EntityNamed = (e : Entity) × EntitySame (entity_tree e)

abbrev TypeNamed : Type 0
TypeNamed = (t : TypeShape) × TypeSame (type_tree t)

abbrev ComponentNamed : Type 0
ComponentNamed = (c : ComponentShape) × SidesSame (component_sides c)

abbrev InstanceNamed : Type 0
InstanceNamed = (i : InstanceShape) × EntriesSame (instance_entries i)

entries_same : (es : List (List ℕ × EntityNamed)) → EntriesSame (entries_of (map (λ (x : List ℕ × Entity). (x.0, entity_tree x.1)) (map (λ (x : List ℕ × EntityNamed). (x.0, x.1.0)) es)))
entries_same [] d = refl
entries_same (e ∷ es) d = λ i. more (around (head.Entry true e.0) (e.1.1 d i)) (entries_same es d i)

entity_layer : (y : Entity-F EntityNamed TypeNamed ComponentNamed InstanceNamed) → EntitySame (entity_step (map-Entity Entity TypeShape ComponentShape InstanceShape EntityTree TypeShapeTree Sides Entries entity_tree type_tree component_sides instance_entries (map-Entity EntityNamed TypeNamed ComponentNamed InstanceNamed Entity TypeShape ComponentShape InstanceShape (λ e. e.0) (λ e. e.0) (λ e. e.0) (λ e. e.0) y)))
entity_layer (layer.«Entity::Func» f) d = ap (around head.Func) (func_same d (func_tree f))
entity_layer (layer.«Entity::Instance» i) d = ap (tree head.Instance) (i.1 d)
entity_layer (layer.«Entity::Component» c) d = λ i. around_two head.Component (tree head.Entries (c.1.0 (suc (suc d)) i)) (tree head.Entries (c.1.1 (suc (suc d)) i))
entity_layer (layer.Module m) d = module_same d m
entity_layer (layer.Ty t) d = t.1 d

type_layer : (y : TypeShape-F EntityNamed TypeNamed ComponentNamed InstanceNamed) → TypeSame (type_step (map-TypeShape Entity TypeShape ComponentShape InstanceShape EntityTree TypeShapeTree Sides Entries entity_tree type_tree component_sides instance_entries (map-TypeShape EntityNamed TypeNamed ComponentNamed InstanceNamed Entity TypeShape ComponentShape InstanceShape (λ e. e.0) (λ e. e.0) (λ e. e.0) (λ e. e.0) y)))
type_layer (layer.Resource r) d = refl
type_layer (layer.Value v) d = value_same d (value_tree v)
type_layer (layer.«TypeShape::Func» f) d = func_same d (func_tree f)
type_layer (layer.«TypeShape::Instance» i) d = ap (tree head.InstanceType) (i.1 (suc d))
type_layer (layer.«TypeShape::Component» c) d = λ i. around_two head.ComponentType (tree head.Entries (c.1.0 (suc (suc d)) i)) (tree head.Entries (c.1.1 (suc (suc d)) i))

pub entity_same : (e : Entity) → EntitySame (entity_tree e)
entity_same = ind-Entity (λ e. EntitySame (entity_tree e)) (λ t. TypeSame (type_tree t)) (λ c. SidesSame (component_sides c)) (λ i. EntriesSame (instance_entries i))
    (λ x y is. subst (λ x. EntitySame (entity_tree (roll-Entity x))) is
    (subst EntitySame (sym (fold-roll-Entity EntityTree TypeShapeTree Sides Entries entity_step type_step component_step instance_step (map-Entity EntityNamed TypeNamed ComponentNamed InstanceNamed Entity TypeShape ComponentShape InstanceShape (λ e. e.0) (λ e. e.0) (λ e. e.0) (λ e. e.0) y))) (entity_layer y)))
    (λ x y is. subst (λ x. TypeSame (type_tree (roll-TypeShape x))) is
    (subst TypeSame (sym (fold-roll-TypeShape EntityTree TypeShapeTree Sides Entries entity_step type_step component_step instance_step (map-TypeShape EntityNamed TypeNamed ComponentNamed InstanceNamed Entity TypeShape ComponentShape InstanceShape (λ e. e.0) (λ e. e.0) (λ e. e.0) (λ e. e.0) y))) (type_layer y)))
    (λ x y is. subst (λ x. SidesSame (component_sides (roll-ComponentShape x))) is
    (subst SidesSame (sym (fold-roll-ComponentShape EntityTree TypeShapeTree Sides Entries entity_step type_step component_step instance_step (map-ComponentShape EntityNamed TypeNamed ComponentNamed InstanceNamed Entity TypeShape ComponentShape InstanceShape (λ e. e.0) (λ e. e.0) (λ e. e.0) (λ e. e.0) y))) (entries_same y.imports.items, entries_same y.exports.items)))
    (λ x y is. subst (λ x. EntriesSame (instance_entries (roll-InstanceShape x))) is
    (subst EntriesSame (sym (fold-roll-InstanceShape EntityTree TypeShapeTree Sides Entries entity_step type_step component_step instance_step (map-InstanceShape EntityNamed TypeNamed ComponentNamed InstanceNamed Entity TypeShape ComponentShape InstanceShape (λ e. e.0) (λ e. e.0) (λ e. e.0) (λ e. e.0) y))) (entries_same y.exports.items)))
