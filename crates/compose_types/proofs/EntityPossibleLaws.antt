-- What an entity holds is written, where the entity is.
use Rattle.std.proofs.Common.{◌≡◌, ℕ, ◌<◌, length, get_or, drop, true, false, List, ◌∷◌, Option, Some, None}
use Rattle.std.specs.Prelude.{IsSome, option_and_then}
use Rattle.comp_format.specs.Definitions as tree
use Rattle.comp_format.specs.Definitions.{DeclTree}
use Rattle.comp_format.specs.declared.types.TypeRef.{TypeRef}
use Rattle.comp_entity.specs.declared.entity.FuncShape.{FuncShape}
use Rattle.comp_entity.specs.declared.entity.ValueShape.{ValueShape}
use Rattle.comp_entity.specs.declared.entity.InstanceShape.{InstanceShape}
use Rattle.comp_entity.specs.declared.entity.ComponentShape.{ComponentShape}
use Rattle.comp_entity.specs.declared.entity.TypeShape.{TypeShape}
use Rattle.comp_entity.specs.declared.entity.TypeShape.TheVariants as shape
use Rattle.comp_entity.specs.declared.entity.Entity.{Entity}
use Rattle.comp_entity.specs.declared.entity.Entity.TheVariants as entity
use Rattle.comp_entity.specs.Entity.{Name, ValueTree, Entries, IsComponent}
use Rattle.comp_entity.specs.Fits.{place_of}
use Rattle.comp_entity.specs.Names.{OfResource, OfPlace}
use Rattle.comp_entity.specs.Views.{value_tree, func_tree, entries_of, named_entities, entity_tree, component_sides}
use Rattle.comp_entity.specs.Views.{type_tree as shape_tree}
use Rattle.compose_writing.specs.Scopes.{WrittenScope, closed, knows, opened, type_index}
use Rattle.compose_writing.specs.WriteValues.{write_func, write_own}
use Rattle.compose_writing.specs.WriteEntities.{write_component, write_entity, write_entries, write_named, write_resource, write_type}
use Rattle.compose_types.specs.Largest.{closed_size, scopes_size, written_size}
use Rattle.compose_types.proofs.EntityLargestLaws.{component_ref_refused, entry_refused, exports_refused, func_ref_refused, imports_refused, instance_ref_refused, instance_refused, named_known_refused, named_new_refused, resource_refused, sides_refused, type_component_refused, type_func_refused, type_instance_refused, type_of_entity_refused, type_resource_refused, type_value_refused, unnamed_refused}
use Rattle.compose_types.proofs.PossibleLaws.{written_before}

-- ---- value types and resources with a name

module _ (place : Option Name) (t : ValueTree) (ms : List WrittenScope) (some : IsSome (write_named place t ms)) where
  pub named_known_possible : (name : Name) → Some name ≡ place → knows ms (OfPlace name) ≡ true → IsSome (type_index (OfPlace name) ms)
  named_known_possible name is known =
      written_before written_size written_size (type_index (OfPlace name) ms) (write_named place t ms) (λ n h. named_known_refused n place t ms name is known h) some

  pub named_new_possible : (name : Name) → Some name ≡ place → knows ms (OfPlace name) ≡ false → IsSome (write_own t ms)
  named_new_possible name is known =
      written_before written_size written_size (write_own t ms) (write_named place t ms) (λ n h. named_new_refused n place t ms name is known h) some

  pub no_name_possible : None ≡ place → IsSome (write_own t ms)
  no_name_possible is =
      written_before written_size written_size (write_own t ms) (write_named place t ms) (λ n h. unnamed_refused n place t ms is h) some

pub resource_possible : (r : Name) (ms : List WrittenScope) → knows ms (OfResource r) ≡ true → IsSome (write_resource r (knows ms (OfResource r)) ms) → IsSome (type_index (OfResource r) ms)
resource_possible r ms known some =
    written_before written_size written_size (type_index (OfResource r) ms) (write_resource r (knows ms (OfResource r)) ms) (λ n h. resource_refused n r (knows ms (OfResource r)) ms known h) some

-- ---- scopes

pub instance_possible : (es : Entries) (width : ℕ) (ms inner : List WrittenScope) → inner ≡ opened width ∷ ms → IsSome (option_and_then closed (write_entries tree.Export es (opened width ∷ ms))) → IsSome (write_entries tree.Export es inner)
instance_possible es width ms inner is some =
    written_before scopes_size closed_size (write_entries tree.Export es inner) (option_and_then closed (write_entries tree.Export es (opened width ∷ ms))) (λ n h. instance_refused n es width ms inner is h) some

module _ (is es : Entries) (ms inner : List WrittenScope) (open_is : inner ≡ opened 2 ∷ ms) (some : IsSome (write_component is es ms)) where
  pub imports_possible : IsSome (write_entries tree.Import is inner)
  imports_possible =
      written_before scopes_size closed_size (write_entries tree.Import is inner) (write_component is es ms) (λ n h. imports_refused n is es ms inner open_is h) some

  pub exports_possible : (mid : List WrittenScope) → write_entries tree.Import is inner ≡ Some mid → IsSome (write_entries tree.Export es mid)
  exports_possible mid first =
      written_before scopes_size closed_size (write_entries tree.Export es mid) (write_component is es ms) (λ n h. exports_refused n is es ms inner open_is mid first h) some

-- a component by its imports and exports
pub sides_possible : (is es : Entries) (ms : List WrittenScope) → IsSome (write_entity (IsComponent is es) ms) → IsSome (write_component is es ms)
sides_possible is es ms some =
    written_before closed_size written_size (write_component is es ms) (write_entity (IsComponent is es) ms) (λ n h. sides_refused n is es ms h) some

-- ---- entities

module _ (e : Entity) (ms : List WrittenScope) (some : IsSome (write_entity (entity_tree e) ms)) where
  pub func_ref_possible : (f : FuncShape) → e ≡ entity.Func f → IsSome (write_func (func_tree f) ms)
  func_ref_possible f is =
      written_before written_size written_size (write_func (func_tree f) ms) (write_entity (entity_tree e) ms) (λ n h. func_ref_refused n e ms f is h) some

  pub instance_ref_possible : (t : InstanceShape) → e ≡ entity.Instance t → IsSome (option_and_then closed (write_entries tree.Export (entries_of (named_entities t.exports.items)) (opened 0 ∷ ms)))
  instance_ref_possible t is =
      written_before closed_size written_size (option_and_then closed (write_entries tree.Export (entries_of (named_entities t.exports.items)) (opened 0 ∷ ms))) (write_entity (entity_tree e) ms) (λ n h. instance_ref_refused n e ms t is h) some

  pub component_ref_possible : (c : ComponentShape) → e ≡ entity.Component c → IsSome (write_component (component_sides c).imports (component_sides c).exports ms)
  component_ref_possible c is =
      written_before closed_size written_size (write_component (component_sides c).imports (component_sides c).exports ms) (write_entity (entity_tree e) ms) (λ n h. component_ref_refused n e ms c is h) some

  pub type_possible : (t : TypeShape) → e ≡ entity.Ty t → IsSome (write_type (shape_tree t) ms)
  type_possible t is =
      written_before written_size written_size (write_type (shape_tree t) ms) (write_entity (entity_tree e) ms) (λ n h. type_of_entity_refused n e ms t is h) some

module _ (s : TypeShape) (ms : List WrittenScope) (some : IsSome (write_type (shape_tree s) ms)) where
  pub type_resource_possible : (r : Name) → s ≡ shape.Resource r → IsSome (write_resource r (knows ms (OfResource r)) ms)
  type_resource_possible r is =
      written_before written_size written_size (write_resource r (knows ms (OfResource r)) ms) (write_type (shape_tree s) ms) (λ n h. type_resource_refused n s ms r is h) some

  pub type_value_possible : (v : ValueShape) → s ≡ shape.Value v → IsSome (write_named (place_of (value_tree v)) (value_tree v) ms)
  type_value_possible v is =
      written_before written_size written_size (write_named (place_of (value_tree v)) (value_tree v) ms) (write_type (shape_tree s) ms) (λ n h. type_value_refused n s ms v is h) some

  pub type_func_possible : (f : FuncShape) → s ≡ shape.Func f → IsSome (write_func (func_tree f) ms)
  type_func_possible f is =
      written_before written_size written_size (write_func (func_tree f) ms) (write_type (shape_tree s) ms) (λ n h. type_func_refused n s ms f is h) some

  pub type_instance_possible : (t : InstanceShape) → s ≡ shape.Instance t → IsSome (option_and_then closed (write_entries tree.Export (entries_of (named_entities t.exports.items)) (opened 1 ∷ ms)))
  type_instance_possible t is =
      written_before closed_size written_size (option_and_then closed (write_entries tree.Export (entries_of (named_entities t.exports.items)) (opened 1 ∷ ms))) (write_type (shape_tree s) ms) (λ n h. type_instance_refused n s ms t is h) some

  pub type_component_possible : (c : ComponentShape) → s ≡ shape.Component c → IsSome (write_component (component_sides c).imports (component_sides c).exports ms)
  type_component_possible c is =
      written_before closed_size written_size (write_component (component_sides c).imports (component_sides c).exports ms) (write_type (shape_tree s) ms) (λ n h. type_component_refused n s ms c is h) some

-- ---- imports or exports, one after the other

pub entry_possible : (item : List ℕ → TypeRef → DeclTree) (xs : List (List ℕ × Entity)) (i : ℕ) (x : List ℕ × Entity) (ms : List WrittenScope) (all : Option (List WrittenScope)) → i < length xs → x ≡ get_or xs i x
    → write_entries item (entries_of (named_entities (drop i xs))) ms ≡ all → IsSome all → IsSome (write_entity (entity_tree x.1) ms)
entry_possible item xs i x ms all lt is h some =
    written_before written_size scopes_size (write_entity (entity_tree x.1) ms) all (λ n k. entry_refused n item xs i x ms all lt is h k) some
