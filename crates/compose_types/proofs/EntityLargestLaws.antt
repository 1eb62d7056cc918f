-- A number that is refused while entities are written stands in what would be written.
use Rattle.std.proofs.Common.{◌≡◌, ℕ, suc, ◌<◌, ◌≤◌, length, get_or, drop, drop-cons, true, false, List, ◌∷◌, Option, Some, None, sym, ap, ◌∙◌, arith}
use Rattle.std.specs.Prelude.{Bool, option_and_then}
use Rattle.comp_format.specs.declared.types.TypeRef.{TypeRef}
use Rattle.comp_format.specs.declared.types.TypeRef.TheVariants as description
use Rattle.comp_format.specs.CoreTypes as core
use Rattle.comp_format.specs.Definitions as tree
use Rattle.comp_format.specs.Definitions.{DeclTree, Decls, TypeTree}
use Rattle.comp_entity.specs.declared.module.ModuleShape.{ModuleShape}
use Rattle.comp_entity.specs.declared.entity.FuncShape.{FuncShape}
use Rattle.comp_entity.specs.declared.entity.ValueShape.{ValueShape}
use Rattle.comp_entity.specs.declared.entity.InstanceShape.{InstanceShape}
use Rattle.comp_entity.specs.declared.entity.ComponentShape.{ComponentShape}
use Rattle.comp_entity.specs.declared.entity.TypeShape.{TypeShape}
use Rattle.comp_entity.specs.declared.entity.TypeShape.TheVariants as shape
use Rattle.comp_entity.specs.declared.entity.Entity.{Entity}
use Rattle.comp_entity.specs.declared.entity.Entity.TheVariants as entity
use Rattle.comp_entity.specs.Entity.{Name, ValueTree, EntityTree, IsComponent, Entries}
use Rattle.comp_entity.specs.Fits.{place_of}
use Rattle.comp_entity.specs.Names.{OfResource, OfPlace}
use Rattle.comp_entity.specs.Views.{value_tree, func_tree, entries_of, named_entities, entity_tree, component_sides}
use Rattle.comp_entity.specs.Views.{type_tree as shape_tree}
use Rattle.compose_writing.specs.Scopes.{WrittenScope, Wrote, wrote_as, opened, add_type, add_core_type, on_top, then_type, closed, knows, type_index}
use Rattle.compose_writing.specs.WriteModules.{write_module}
use Rattle.compose_writing.specs.WriteValues.{write_func, write_own}
use Rattle.compose_writing.specs.WriteEntities.{with_named, write_component, write_entity, write_entries, write_named, write_place, write_resource, write_type}
use Rattle.compose_types.specs.Largest.{IsTooLarge, IsWithin, closed_size, module_size, scopes_size, written_size}
use Rattle.compose_types.proofs.EntityLaws.{entity_component, entity_func, entity_module, entity_type, shape_component, shape_func, shape_instance, shape_resource, shape_value}
use Rattle.compose_types.proofs.NoteLaws.{entity_instance}
use Rattle.compose_types.proofs.GrowLaws.{named_grows, sizes_grow}
use Rattle.compose_types.proofs.LargestLaws.{closed_within, component_size, ended_within, instance_size, module_within, within_as, within_same}
use Rattle.compose_types.proofs.WriteGrowLaws.{EntriesGrow, GrowingWithin, entries_grow, entries_then}

-- ---- value types and resources with a name

place_known : (n : ℕ) (name : Name) (is_known : Bool) (t : ValueTree) (ms : List WrittenScope) → is_known ≡ true → IsWithin n written_size (type_index (OfPlace name) ms) → IsWithin n written_size (write_place name is_known t ms)
place_known n name true t ms is h = h
place_known n name false t ms is h = absurd cc

place_new : (n : ℕ) (name : Name) (is_known : Bool) (t : ValueTree) (ms : List WrittenScope) → is_known ≡ false → IsWithin n written_size (write_own t ms) → IsWithin n written_size (write_place name is_known t ms)
place_new n name true t ms is h = absurd cc
place_new n name false t ms is h = h

module _ (n : ℕ) (place : Option Name) (t : ValueTree) (ms : List WrittenScope) where
  pub named_known_refused : (name : Name) → Some name ≡ place → knows ms (OfPlace name) ≡ true → IsWithin n written_size (type_index (OfPlace name) ms) → IsWithin n written_size (write_named place t ms)
  named_known_refused name is known h =
      within_same n written_size (write_named (Some name) t ms) (write_named place t ms) (ap (λ p. write_named p t ms) is)
      (place_known n name (knows ms (OfPlace name)) t ms known h)

  pub named_new_refused : (name : Name) → Some name ≡ place → knows ms (OfPlace name) ≡ false → IsWithin n written_size (write_own t ms) → IsWithin n written_size (write_named place t ms)
  named_new_refused name is known h =
      within_same n written_size (write_named (Some name) t ms) (write_named place t ms) (ap (λ p. write_named p t ms) is)
      (place_new n name (knows ms (OfPlace name)) t ms known h)

  pub unnamed_refused : None ≡ place → IsWithin n written_size (write_own t ms) → IsWithin n written_size (write_named place t ms)
  unnamed_refused is h = within_same n written_size (write_named None t ms) (write_named place t ms) (ap (λ p. write_named p t ms) is) h

pub resource_refused : (n : ℕ) (r : Name) (is_known : Bool) (ms : List WrittenScope) → is_known ≡ true → IsWithin n written_size (type_index (OfResource r) ms) → IsWithin n written_size (write_resource r is_known ms)
resource_refused n r true ms is h = within_as n description.TyEqual (type_index (OfResource r) ms) h
resource_refused n r false ms is h = absurd cc

-- ---- scopes

-- the declarations that ended, behind what was written
type_added : (n : ℕ) (type_of : Decls → TypeTree) (w : Wrote Decls) (mid : List WrittenScope) (ds : Decls) → w ≡ Some (mid, ds) → IsWithin n written_size (on_top (add_type (type_of ds)) mid) → IsWithin n written_size (then_type (wrote_as type_of w))
type_added n type_of w mid ds is h =
    within_same n written_size (on_top (add_type (type_of ds)) mid) (then_type (wrote_as type_of w)) (sym (ap (λ w. then_type (wrote_as type_of w)) is)) h

pub instance_refused : (n : ℕ) (es : Entries) (width : ℕ) (ms inner : List WrittenScope) → inner ≡ opened width ∷ ms → IsWithin n scopes_size (write_entries tree.Export es inner) → IsWithin n closed_size (option_and_then closed (write_entries tree.Export es (opened width ∷ ms)))
instance_refused n es width ms inner is h =
    closed_within n width ms (write_entries tree.Export es (opened width ∷ ms)) (entries_grow tree.Export es (opened width ∷ ms))
    (within_same n scopes_size (write_entries tree.Export es inner) (write_entries tree.Export es (opened width ∷ ms)) (ap (write_entries tree.Export es) is) h)

-- some entries, and others behind them
pub entries_behind_within : (n : ℕ) (next : List WrittenScope) (w : Option (List WrittenScope)) → n ≤ scopes_size next → EntriesGrow next w → IsWithin n scopes_size w
entries_behind_within n next None le g = record { within = tt }
entries_behind_within n next (Some ns) le g = let grown = sizes_grow next ns g in record { within = omega (arith, le, grown) }

entries_then_within : (n : ℕ) (f : List WrittenScope → Option (List WrittenScope)) (w : Option (List WrittenScope)) → IsWithin n scopes_size w → ((next : List WrittenScope) → EntriesGrow next (f next)) → IsWithin n scopes_size (option_and_then f w)
entries_then_within n f None h g = record { within = tt }
entries_then_within n f (Some next) h g = entries_behind_within n next (f next) h.within (g next)

module _ (n : ℕ) (is es : Entries) (ms inner : List WrittenScope) (open_is : inner ≡ opened 2 ∷ ms) where
  sides_grow : GrowingWithin 2 ms (option_and_then (write_entries tree.Export es) (write_entries tree.Import is (opened 2 ∷ ms)))
  sides_grow =
      entries_then (write_entries tree.Export es) (opened 2 ∷ ms) (write_entries tree.Import is (opened 2 ∷ ms))
      (entries_grow tree.Import is (opened 2 ∷ ms)) (λ next. entries_grow tree.Export es next)

  pub imports_refused : IsWithin n scopes_size (write_entries tree.Import is inner) → IsWithin n closed_size (write_component is es ms)
  imports_refused h =
      closed_within n 2 ms (option_and_then (write_entries tree.Export es) (write_entries tree.Import is (opened 2 ∷ ms))) sides_grow
      (entries_then_within n (write_entries tree.Export es) (write_entries tree.Import is (opened 2 ∷ ms))
      (within_same n scopes_size (write_entries tree.Import is inner) (write_entries tree.Import is (opened 2 ∷ ms)) (ap (write_entries tree.Import is) open_is) h)
      (λ next. entries_grow tree.Export es next))

  pub exports_refused : (mid : List WrittenScope) → write_entries tree.Import is inner ≡ Some mid → IsWithin n scopes_size (write_entries tree.Export es mid) → IsWithin n closed_size (write_component is es ms)
  exports_refused mid first h =
      closed_within n 2 ms (option_and_then (write_entries tree.Export es) (write_entries tree.Import is (opened 2 ∷ ms))) sides_grow
      (within_same n scopes_size (write_entries tree.Export es mid) (option_and_then (write_entries tree.Export es) (write_entries tree.Import is (opened 2 ∷ ms)))
      (sym (ap (option_and_then (write_entries tree.Export es)) (sym (ap (write_entries tree.Import is) open_is) ∙ first))) h)

-- ---- entities

module _ (n : ℕ) (e : Entity) (ms : List WrittenScope) where
  pub func_ref_refused : (f : FuncShape) → e ≡ entity.Func f → IsWithin n written_size (write_func (func_tree f) ms) → IsWithin n written_size (write_entity (entity_tree e) ms)
  unfolding write_entity
  func_ref_refused f is h = rw (is, entity_func f) (within_as n description.Func (write_func (func_tree f) ms) h)

  pub instance_ref_refused : (t : InstanceShape) → e ≡ entity.Instance t → IsWithin n closed_size (option_and_then closed (write_entries tree.Export (entries_of (named_entities t.exports.items)) (opened 0 ∷ ms))) → IsWithin n written_size (write_entity (entity_tree e) ms)
  unfolding write_entity
  instance_ref_refused t is h =
      rw (is, entity_instance t) (within_as n description.Instance _ (ended_within n tree.Instance instance_size (option_and_then closed (write_entries tree.Export (entries_of (named_entities t.exports.items)) (opened 0 ∷ ms))) h))

  pub instance_added_refused : (t : InstanceShape) (mid : List WrittenScope) (ds : Decls) → e ≡ entity.Instance t → option_and_then closed (write_entries tree.Export (entries_of (named_entities t.exports.items)) (opened 0 ∷ ms)) ≡ Some (mid, ds)
      → IsWithin n written_size (on_top (add_type (tree.Instance ds)) mid) → IsWithin n written_size (write_entity (entity_tree e) ms)
  unfolding write_entity
  instance_added_refused t mid ds is first h =
      rw (is, entity_instance t) (within_as n description.Instance _ (type_added n tree.Instance (option_and_then closed (write_entries tree.Export (entries_of (named_entities t.exports.items)) (opened 0 ∷ ms))) mid ds first h))

  pub component_ref_refused : (c : ComponentShape) → e ≡ entity.Component c → IsWithin n closed_size (write_component (component_sides c).imports (component_sides c).exports ms) → IsWithin n written_size (write_entity (entity_tree e) ms)
  unfolding write_entity
  component_ref_refused c is h =
      rw (is, entity_component c) (within_as n description.Component _ (ended_within n tree.Component component_size (write_component (component_sides c).imports (component_sides c).exports ms) h))

  pub component_added_refused : (c : ComponentShape) (mid : List WrittenScope) (ds : Decls) → e ≡ entity.Component c → write_component (component_sides c).imports (component_sides c).exports ms ≡ Some (mid, ds)
      → IsWithin n written_size (on_top (add_type (tree.Component ds)) mid) → IsWithin n written_size (write_entity (entity_tree e) ms)
  unfolding write_entity
  component_added_refused c mid ds is first h =
      rw (is, entity_component c) (within_as n description.Component _ (type_added n tree.Component (write_component (component_sides c).imports (component_sides c).exports ms) mid ds first h))

  pub module_refused : (m : ModuleShape) → e ≡ entity.Module m → IsTooLarge n (module_size (write_module m)) → IsWithin n written_size (write_entity (entity_tree e) ms)
  unfolding write_entity
  module_refused m is h = rw (is, entity_module m) (within_as n description.Module _ (module_within n (core.Module (write_module m)) ms h.among))

  pub module_added_refused : (m : ModuleShape) → e ≡ entity.Module m → IsWithin n written_size (on_top (add_core_type (core.Module (write_module m))) ms) → IsWithin n written_size (write_entity (entity_tree e) ms)
  unfolding write_entity
  module_added_refused m is h = rw (is, entity_module m) (within_as n description.Module _ h)

  pub type_of_entity_refused : (t : TypeShape) → e ≡ entity.Ty t → IsWithin n written_size (write_type (shape_tree t) ms) → IsWithin n written_size (write_entity (entity_tree e) ms)
  unfolding write_entity
  type_of_entity_refused t is h = rw (is, entity_type t) h

-- a component by its imports and exports
pub sides_refused : (n : ℕ) (is es : Entries) (ms : List WrittenScope) → IsWithin n closed_size (write_component is es ms) → IsWithin n written_size (write_entity (IsComponent is es) ms)
unfolding write_entity
sides_refused n is es ms h = within_as n description.Component _ (ended_within n tree.Component component_size (write_component is es ms) h)

pub sides_added_refused : (n : ℕ) (is es : Entries) (ms mid : List WrittenScope) (ds : Decls) → write_component is es ms ≡ Some (mid, ds) → IsWithin n written_size (on_top (add_type (tree.Component ds)) mid) → IsWithin n written_size (write_entity (IsComponent is es) ms)
unfolding write_entity
sides_added_refused n is es ms mid ds first h = within_as n description.Component _ (type_added n tree.Component (write_component is es ms) mid ds first h)

module _ (n : ℕ) (s : TypeShape) (ms : List WrittenScope) where
  pub type_resource_refused : (r : Name) → s ≡ shape.Resource r → IsWithin n written_size (write_resource r (knows ms (OfResource r)) ms) → IsWithin n written_size (write_type (shape_tree s) ms)
  unfolding write_entity
  type_resource_refused r is h = rw (is, shape_resource r) h

  pub type_value_refused : (v : ValueShape) → s ≡ shape.Value v → IsWithin n written_size (write_named (place_of (value_tree v)) (value_tree v) ms) → IsWithin n written_size (write_type (shape_tree s) ms)
  unfolding write_entity
  type_value_refused v is h = rw (is, shape_value v) (within_as n description.TyEqual _ h)

  pub type_func_refused : (f : FuncShape) → s ≡ shape.Func f → IsWithin n written_size (write_func (func_tree f) ms) → IsWithin n written_size (write_type (shape_tree s) ms)
  unfolding write_entity
  type_func_refused f is h = rw (is, shape_func f) (within_as n description.TyEqual _ h)

  pub type_instance_refused : (t : InstanceShape) → s ≡ shape.Instance t → IsWithin n closed_size (option_and_then closed (write_entries tree.Export (entries_of (named_entities t.exports.items)) (opened 1 ∷ ms))) → IsWithin n written_size (write_type (shape_tree s) ms)
  unfolding write_entity
  type_instance_refused t is h =
      rw (is, shape_instance t) (within_as n description.TyEqual _ (ended_within n tree.Instance instance_size (option_and_then closed (write_entries tree.Export (entries_of (named_entities t.exports.items)) (opened 1 ∷ ms))) h))

  pub type_instance_added_refused : (t : InstanceShape) (mid : List WrittenScope) (ds : Decls) → s ≡ shape.Instance t → option_and_then closed (write_entries tree.Export (entries_of (named_entities t.exports.items)) (opened 1 ∷ ms)) ≡ Some (mid, ds)
      → IsWithin n written_size (on_top (add_type (tree.Instance ds)) mid) → IsWithin n written_size (write_type (shape_tree s) ms)
  unfolding write_entity
  type_instance_added_refused t mid ds is first h =
      rw (is, shape_instance t) (within_as n description.TyEqual _ (type_added n tree.Instance (option_and_then closed (write_entries tree.Export (entries_of (named_entities t.exports.items)) (opened 1 ∷ ms))) mid ds first h))

  pub type_component_refused : (c : ComponentShape) → s ≡ shape.Component c → IsWithin n closed_size (write_component (component_sides c).imports (component_sides c).exports ms) → IsWithin n written_size (write_type (shape_tree s) ms)
  unfolding write_entity
  type_component_refused c is h =
      rw (is, shape_component c) (within_as n description.TyEqual _ (ended_within n tree.Component component_size (write_component (component_sides c).imports (component_sides c).exports ms) h))

  pub type_component_added_refused : (c : ComponentShape) (mid : List WrittenScope) (ds : Decls) → s ≡ shape.Component c → write_component (component_sides c).imports (component_sides c).exports ms ≡ Some (mid, ds)
      → IsWithin n written_size (on_top (add_type (tree.Component ds)) mid) → IsWithin n written_size (write_type (shape_tree s) ms)
  unfolding write_entity
  type_component_added_refused c mid ds is first h =
      rw (is, shape_component c) (within_as n description.TyEqual _ (type_added n tree.Component (write_component (component_sides c).imports (component_sides c).exports ms) mid ds first h))

-- ---- imports or exports, one after the other

module _ (n : ℕ) (item : List ℕ → TypeRef → DeclTree) (name : List ℕ) (e : EntityTree) (es : Entries) where
  entry_described : (w : Wrote TypeRef) → IsWithin n written_size w → IsWithin n scopes_size (option_and_then (λ x. write_entries item es (with_named item name e x.1 x.0)) w)
  entry_described None h = record { within = tt }
  entry_described (Some x) h =
      let next = with_named item name e x.1 x.0 in
      let le = h.within in
      let named = sizes_grow x.0 next (named_grows item name e x.1 x.0) in
      entries_behind_within n next (write_entries item es next) (omega (arith, le, named)) (entries_grow item es next)

  entry_named : (ms mid : List WrittenScope) (ty : TypeRef) (w : Wrote TypeRef) → w ≡ Some (mid, ty) → n ≤ scopes_size (with_named item name e ty mid) → IsWithin n scopes_size (option_and_then (λ x. write_entries item es (with_named item name e x.1 x.0)) w)
  entry_named ms mid ty w is le =
      let next = with_named item name e ty mid in
      within_same n scopes_size (write_entries item es next) (option_and_then (λ x. write_entries item es (with_named item name e x.1 x.0)) w)
      (sym (ap (option_and_then (λ x. write_entries item es (with_named item name e x.1 x.0))) is))
      (entries_behind_within n next (write_entries item es next) le (entries_grow item es next))

module _ (n : ℕ) (item : List ℕ → TypeRef → DeclTree) (xs : List (List ℕ × Entity)) (i : ℕ) (x : List ℕ × Entity) (ms : List WrittenScope) (all : Option (List WrittenScope))
    (lt : i < length xs) (is : x ≡ get_or xs i x) (h : write_entries item (entries_of (named_entities (drop i xs))) ms ≡ all) where
  entries_cut : write_entries item (entries_of (named_entities (x ∷ drop (suc i) xs))) ms ≡ all
  entries_cut =
      let cut : drop i xs ≡ x ∷ drop (suc i) xs = drop-cons xs i x lt ∙ ap (λ z. z ∷ drop (suc i) xs) (sym is) in
      sym (ap (λ ys. write_entries item (entries_of (named_entities ys)) ms) cut) ∙ h

  pub entry_refused : IsWithin n written_size (write_entity (entity_tree x.1) ms) → IsWithin n scopes_size all
  unfolding write_entity
  entry_refused k =
      within_same n scopes_size (write_entries item (entries_of (named_entities (x ∷ drop (suc i) xs))) ms) all entries_cut
      (entry_described n item x.0 (entity_tree x.1) (entries_of (named_entities (drop (suc i) xs))) (write_entity (entity_tree x.1) ms) k)

  pub entry_named_refused : (mid : List WrittenScope) (ty : TypeRef) → write_entity (entity_tree x.1) ms ≡ Some (mid, ty) → n ≤ scopes_size (with_named item x.0 (entity_tree x.1) ty mid) → IsWithin n scopes_size all
  unfolding write_entity
  entry_named_refused mid ty first le =
      within_same n scopes_size (write_entries item (entries_of (named_entities (x ∷ drop (suc i) xs))) ms) all entries_cut
      (entry_named n item x.0 (entity_tree x.1) (entries_of (named_entities (drop (suc i) xs))) ms mid ty (write_entity (entity_tree x.1) ms) first le)
