-- Scopes only grow where values, functions and entities are written into them.
use Rattle.std.proofs.Common.{ℕ, zero, suc, List, [], ◌∷◌, Option, Some, None}
use Rattle.std.specs.Prelude.{Bool, true, false, IfSome, option_and_then}
use Rattle.comp_format.specs.declared.types.Alias.TheVariants as alias
use Rattle.comp_format.specs.declared.types.Sort.TheVariants as sort
use Rattle.comp_format.specs.declared.types.DefinedType.{DefinedType}
use Rattle.comp_format.specs.declared.types.DefinedType.TheVariants as defined
use Rattle.comp_format.specs.declared.types.TypeRef.{TypeRef}
use Rattle.comp_format.specs.declared.types.TypeRef.TheVariants as description
use Rattle.comp_format.specs.declared.types.ValType.TheVariants as value
use Rattle.comp_format.specs.CoreTypes as core
use Rattle.comp_format.specs.Definitions as tree
use Rattle.comp_format.specs.Definitions.{DeclTree, Decls, TypeTree}
use Rattle.comp_entity.specs.Entity.{Name, ValueTree, Primitive, TupleOf, RecordOf, VariantOf, ListOf, FlagsOf, EnumOf, OptionOf, ResultOf, Own, Borrow, ValueTrees, none, more, Cases, no_case, labelled, Payload, absent, present, FuncTree, TypeShapeTree, Value, Resource, Func, Instance, Component, EntityTree, IsType, IsFunc, IsInstance, IsComponent, IsModule, IsOwnModule, Entries, no_entry, entry}
use Rattle.comp_entity.specs.Names.{Mention, OfResource, OfPlace}
use Rattle.comp_entity.specs.Fits.{place_of}
use Rattle.compose_writing.specs.Keys.{At, known_at, mention_outside}
use Rattle.compose_writing.specs.Scopes.{WrittenScope, Wrote, wrote_as, opened, add_type, add_alias, add_core_type, on_top, then_type, closed, knows, stood, standing, brought, type_index}
use Rattle.compose_writing.specs.WriteModules.{write_module}
use Rattle.compose_writing.specs.WriteValues.{then_defined, named_part, as_part, write_defined, write_parts, write_fields, write_cases, write_payload, write_value, write_params, write_result, write_func, write_own}
use Rattle.compose_writing.specs.WriteEntities.{with_named, then_decls, write_resource, write_place, write_named, write_entity, write_type, write_entries}
use Rattle.compose_types.proofs.GrowLaws.{GrowAll, Grows, all_same, all_then, grows_same, grows_types, grows_core_types, grows_index, named_grows}

-- ---- steps that may give nothing

abbrev pub Growing : {X : Type 0} → List WrittenScope → Wrote X → Type 0
Growing ms w = IfSome w (λ x. GrowAll ms x.0)

pub growing_as : {X Y : Type 0} (f : X → Y) (ms : List WrittenScope) (w : Wrote X) → Growing ms w → Growing ms (wrote_as f w)
growing_as f ms None g = tt
growing_as f ms (Some x) g = g

pub growing_behind : {X : Type 0} (ms next : List WrittenScope) (w : Wrote X) → GrowAll ms next → Growing next w → Growing ms w
growing_behind ms next None g h = tt
growing_behind ms next (Some x) g h = all_then ms next x.0 g h

pub growing_then : {X Y : Type 0} (f : List WrittenScope × X → Wrote Y) (ms : List WrittenScope) (w : Wrote X) → Growing ms w → ((x : List WrittenScope × X) → Growing x.0 (f x)) → Growing ms (option_and_then f w)
growing_then f ms None g h = tt
growing_then f ms (Some x) g h = growing_behind ms x.0 (f x) g (h x)

pub growing_top : (f : WrittenScope → WrittenScope × ℕ) (ms : List WrittenScope) → ((m : WrittenScope) → Grows m (f m).0) → Growing ms (on_top f ms)
unfolding on_top
growing_top f [] h = tt
growing_top f (m ∷ ms) h = (h m, all_same ms)

pub growing_added : (t : TypeTree) (ms : List WrittenScope) → Growing ms (on_top (add_type t) ms)
growing_added t ms = growing_top (add_type t) ms (λ m. grows_types m (tree.Ty t))

pub growing_type : (ms : List WrittenScope) (w : Wrote TypeTree) → Growing ms w → Growing ms (then_type w)
growing_type ms w g = growing_then (λ x. on_top (add_type x.1) x.0) ms w g (λ x. growing_added x.1 x.0)

-- ---- what is known

growing_stood : (m : WrittenScope) (ms : List WrittenScope) (further : Wrote (ℕ × ℕ)) (at : Option At) → Growing ms further → Growing (m ∷ ms) (stood m ms further at)
growing_stood m ms further (Some at) g = (grows_index at m, all_same ms)
growing_stood m ms None None g = tt
growing_stood m ms (Some x) None g = (grows_same m, g)

growing_outside : (ms : List WrittenScope) (outer : Option Mention) → ((key : Mention) → Growing ms (standing ms key)) → Growing ms (option_and_then (standing ms) outer)
growing_outside ms None h = tt
growing_outside ms (Some key) h = h key

pub growing_standing : (ms : List WrittenScope) (key : Mention) → Growing ms (standing ms key)
unfolding standing
growing_standing [] key = tt
growing_standing (m ∷ ms) key =
    growing_stood m ms (option_and_then (standing ms) (mention_outside m.width key)) (known_at m.known key)
    (growing_outside ms (mention_outside m.width key) (λ key. growing_standing ms key))

pub growing_brought : (ms : List WrittenScope) (up i : ℕ) → Growing ms (brought ms up i)
unfolding brought
growing_brought ms zero i = all_same ms
growing_brought ms (suc up) i = growing_top (add_alias (alias.Outer sort.Ty (suc up) i)) ms (λ m. grows_types m (tree.Aliased (alias.Outer sort.Ty (suc up) i)))

pub growing_index : (key : Mention) (ms : List WrittenScope) → Growing ms (type_index key ms)
unfolding type_index
growing_index key ms = growing_then (λ x. brought x.0 x.1.0 x.1.1) ms (standing ms key) (growing_standing ms key) (λ x. growing_brought x.0 x.1.0 x.1.1)

-- ---- values

growing_defined : (ms : List WrittenScope) (w : Wrote DefinedType) → Growing ms w → Growing ms (then_defined w)
growing_defined ms w g = growing_type ms (wrote_as tree.Defined w) (growing_as tree.Defined ms w g)

growing_named_part : (place : Option Name) (own : Wrote DefinedType) (ms : List WrittenScope) → Growing ms own → Growing ms (named_part place own ms)
growing_named_part (Some n) own ms g = growing_as value.Index ms (type_index (OfPlace n) ms) (growing_index (OfPlace n) ms)
growing_named_part None own ms g = growing_as value.Index ms (then_defined own) (growing_defined ms own g)

growing_part : (t : ValueTree) (own : Wrote DefinedType) (ms : List WrittenScope) → Growing ms own → Growing ms (as_part t own ms)
growing_part (Primitive p) own ms g = all_same ms
growing_part (TupleOf parts) own ms g = growing_named_part None own ms g
growing_part (RecordOf place fields) own ms g = growing_named_part place own ms g
growing_part (VariantOf place cases) own ms g = growing_named_part place own ms g
growing_part (ListOf t) own ms g = growing_named_part None own ms g
growing_part (FlagsOf place labels) own ms g = growing_named_part place own ms g
growing_part (EnumOf place labels) own ms g = growing_named_part place own ms g
growing_part (OptionOf t) own ms g = growing_named_part None own ms g
growing_part (ResultOf ok err) own ms g = growing_named_part None own ms g
growing_part (Own r) own ms g = growing_named_part None own ms g
growing_part (Borrow r) own ms g = growing_named_part None own ms g

mutual
  unfolding write_defined

  pub defined_grows : (t : ValueTree) (ms : List WrittenScope) → Growing ms (write_defined t ms)
  defined_grows (Primitive p) ms = all_same ms
  defined_grows (TupleOf parts) ms = growing_as defined.TupleOf ms (write_parts parts ms) (parts_grow parts ms)
  defined_grows (RecordOf place fields) ms = growing_as defined.RecordOf ms (write_fields fields ms) (fields_grow fields ms)
  defined_grows (VariantOf place cases) ms = growing_as defined.VariantOf ms (write_cases cases ms) (cases_grow cases ms)
  defined_grows (ListOf t) ms = growing_as defined.ListOf ms (as_part t (write_defined t ms) ms) (growing_part t (write_defined t ms) ms (defined_grows t ms))
  defined_grows (FlagsOf place labels) ms = all_same ms
  defined_grows (EnumOf place labels) ms = all_same ms
  defined_grows (OptionOf t) ms = growing_as defined.OptionOf ms (as_part t (write_defined t ms) ms) (growing_part t (write_defined t ms) ms (defined_grows t ms))
  defined_grows (ResultOf ok err) ms =
      growing_then (λ x. wrote_as (defined.ResultOf x.1) (write_payload err x.0)) ms (write_payload ok ms) (payload_grows ok ms)
      (λ x. growing_as (defined.ResultOf x.1) x.0 (write_payload err x.0) (payload_grows err x.0))
  defined_grows (Own r) ms = growing_as defined.Own ms (type_index (OfResource r) ms) (growing_index (OfResource r) ms)
  defined_grows (Borrow r) ms = growing_as defined.Borrow ms (type_index (OfResource r) ms) (growing_index (OfResource r) ms)

  parts_grow : (ts : ValueTrees) (ms : List WrittenScope) → Growing ms (write_parts ts ms)
  parts_grow none ms = all_same ms
  parts_grow (more t ts) ms =
      growing_then (λ x. wrote_as (λ us. x.1 ∷ us) (write_parts ts x.0)) ms (as_part t (write_defined t ms) ms) (growing_part t (write_defined t ms) ms (defined_grows t ms))
      (λ x. growing_as (λ us. x.1 ∷ us) x.0 (write_parts ts x.0) (parts_grow ts x.0))

  fields_grow : (fs : Cases) (ms : List WrittenScope) → Growing ms (write_fields fs ms)
  fields_grow no_case ms = all_same ms
  fields_grow (labelled label absent fields) ms = tt
  fields_grow (labelled label (present t) fields) ms =
      growing_then (λ x. wrote_as (λ us. (label, x.1) ∷ us) (write_fields fields x.0)) ms (as_part t (write_defined t ms) ms) (growing_part t (write_defined t ms) ms (defined_grows t ms))
      (λ x. growing_as (λ us. (label, x.1) ∷ us) x.0 (write_fields fields x.0) (fields_grow fields x.0))

  cases_grow : (cs : Cases) (ms : List WrittenScope) → Growing ms (write_cases cs ms)
  cases_grow no_case ms = all_same ms
  cases_grow (labelled label payload cases) ms =
      growing_then (λ x. wrote_as (λ us. (label, x.1) ∷ us) (write_cases cases x.0)) ms (write_payload payload ms) (payload_grows payload ms)
      (λ x. growing_as (λ us. (label, x.1) ∷ us) x.0 (write_cases cases x.0) (cases_grow cases x.0))

  pub payload_grows : (p : Payload) (ms : List WrittenScope) → Growing ms (write_payload p ms)
  payload_grows absent ms = all_same ms
  payload_grows (present t) ms = growing_as Some ms (as_part t (write_defined t ms) ms) (growing_part t (write_defined t ms) ms (defined_grows t ms))

pub value_grows : (t : ValueTree) (ms : List WrittenScope) → Growing ms (write_value t ms)
value_grows t ms = growing_part t (write_defined t ms) ms (defined_grows t ms)

pub own_grows : (t : ValueTree) (ms : List WrittenScope) → Growing ms (write_own t ms)
own_grows t ms = growing_defined ms (write_defined t ms) (defined_grows t ms)

-- ---- functions

pub params_grow : (ps : List (List ℕ × ValueTree)) (ms : List WrittenScope) → Growing ms (write_params ps ms)
unfolding write_params
params_grow [] ms = all_same ms
params_grow (p ∷ ps) ms =
    growing_then (λ x. wrote_as (λ us. (p.0, x.1) ∷ us) (write_params ps x.0)) ms (write_value p.1 ms) (value_grows p.1 ms)
    (λ x. growing_as (λ us. (p.0, x.1) ∷ us) x.0 (write_params ps x.0) (params_grow ps x.0))

pub result_grows : (r : Option ValueTree) (ms : List WrittenScope) → Growing ms (write_result r ms)
unfolding write_result
result_grows None ms = all_same ms
result_grows (Some t) ms = growing_as Some ms (write_value t ms) (value_grows t ms)

pub func_grows : (f : FuncTree) (ms : List WrittenScope) → Growing ms (write_func f ms)
unfolding write_func
func_grows f ms =
    growing_type ms (option_and_then (λ ps. wrote_as (λ r. tree.Func (record { params = ps.1; result = r })) (write_result f.result ps.0)) (write_params f.params ms))
    (growing_then (λ ps. wrote_as (λ r. tree.Func (record { params = ps.1; result = r })) (write_result f.result ps.0)) ms (write_params f.params ms) (params_grow f.params ms)
    (λ ps. growing_as (λ r. tree.Func (record { params = ps.1; result = r })) ps.0 (write_result f.result ps.0) (result_grows f.result ps.0)))

-- ---- types that are scopes

abbrev pub GrowingWithin : ℕ → List WrittenScope → Option (List WrittenScope) → Type 0
GrowingWithin width ms w = IfSome w (λ ns. GrowAll (opened width ∷ ms) ns)

pub growing_closed : (width : ℕ) (ms : List WrittenScope) (w : Option (List WrittenScope)) → GrowingWithin width ms w → Growing ms (option_and_then closed w)
unfolding closed
growing_closed width ms None g = tt
growing_closed width ms (Some []) g = elim g [ ]
growing_closed width ms (Some (n ∷ ns)) g = g.1

pub growing_decls : (type_of : Decls → TypeTree) (width : ℕ) (ms : List WrittenScope) (w : Option (List WrittenScope)) → GrowingWithin width ms w → Growing ms (then_decls type_of w)
growing_decls type_of width ms w g =
    growing_type ms (wrote_as type_of (option_and_then closed w)) (growing_as type_of ms (option_and_then closed w) (growing_closed width ms w g))

-- ---- entities

pub resource_grows : (r : Name) (is_known : Bool) (ms : List WrittenScope) → Growing ms (write_resource r is_known ms)
resource_grows r true ms = growing_as description.TyEqual ms (type_index (OfResource r) ms) (growing_index (OfResource r) ms)
resource_grows r false ms = all_same ms

place_grows : (n : Name) (is_known : Bool) (t : ValueTree) (ms : List WrittenScope) → Growing ms (write_place n is_known t ms)
place_grows n true t ms = growing_index (OfPlace n) ms
place_grows n false t ms = own_grows t ms

pub named_type_grows : (place : Option Name) (t : ValueTree) (ms : List WrittenScope) → Growing ms (write_named place t ms)
named_type_grows None t ms = own_grows t ms
named_type_grows (Some n) t ms = place_grows n (knows ms (OfPlace n)) t ms

-- some entries, and others behind them
abbrev pub EntriesGrow : List WrittenScope → Option (List WrittenScope) → Type 0
EntriesGrow ms w = IfSome w (λ ns. GrowAll ms ns)

entries_behind : (ms next : List WrittenScope) (w : Option (List WrittenScope)) → GrowAll ms next → EntriesGrow next w → EntriesGrow ms w
entries_behind ms next None g h = tt
entries_behind ms next (Some ns) g h = all_then ms next ns g h

pub entries_then : (f : List WrittenScope → Option (List WrittenScope)) (ms : List WrittenScope) (w : Option (List WrittenScope)) → EntriesGrow ms w → ((next : List WrittenScope) → EntriesGrow next (f next)) → EntriesGrow ms (option_and_then f w)
entries_then f ms None g h = tt
entries_then f ms (Some next) g h = entries_behind ms next (f next) g (h next)

pub entry_grows : (item : List ℕ → TypeRef → DeclTree) (name : List ℕ) (e : EntityTree) (ms : List WrittenScope) (f : List WrittenScope → Option (List WrittenScope)) (w : Wrote TypeRef) → Growing ms w → ((next : List WrittenScope) → EntriesGrow next (f next))
    → EntriesGrow ms (option_and_then (λ x. f (with_named item name e x.1 x.0)) w)
entry_grows item name e ms f None g h = tt
entry_grows item name e ms f (Some x) g h =
    let next = with_named item name e x.1 x.0 in
    entries_behind ms next (f next) (all_then ms x.0 next g (named_grows item name e x.1 x.0)) (h next)

mutual
  unfolding write_entity

  pub entity_grows : (e : EntityTree) (ms : List WrittenScope) → Growing ms (write_entity e ms)
  entity_grows (IsType t) ms = type_grows t ms
  entity_grows (IsFunc f) ms = growing_as description.Func ms (write_func f ms) (func_grows f ms)
  entity_grows (IsInstance es) ms =
      growing_as description.Instance ms (then_decls tree.Instance (write_entries tree.Export es (opened 0 ∷ ms)))
      (growing_decls tree.Instance 0 ms (write_entries tree.Export es (opened 0 ∷ ms)) (entries_grow tree.Export es (opened 0 ∷ ms)))
  entity_grows (IsComponent is es) ms =
      growing_as description.Component ms (then_decls tree.Component (option_and_then (write_entries tree.Export es) (write_entries tree.Import is (opened 2 ∷ ms))))
      (growing_decls tree.Component 2 ms (option_and_then (write_entries tree.Export es) (write_entries tree.Import is (opened 2 ∷ ms)))
      (entries_then (write_entries tree.Export es) (opened 2 ∷ ms) (write_entries tree.Import is (opened 2 ∷ ms)) (entries_grow tree.Import is (opened 2 ∷ ms)) (λ next. entries_grow tree.Export es next)))
  entity_grows (IsModule m) ms =
      growing_as description.Module ms (on_top (add_core_type (core.Module (write_module m))) ms)
      (growing_top (add_core_type (core.Module (write_module m))) ms (λ n. grows_core_types n (tree.CoreTy (core.Module (write_module m)))))
  entity_grows IsOwnModule ms = tt

  pub type_grows : (t : TypeShapeTree) (ms : List WrittenScope) → Growing ms (write_type t ms)
  type_grows (Value t) ms = growing_as description.TyEqual ms (write_named (place_of t) t ms) (named_type_grows (place_of t) t ms)
  type_grows (Resource r) ms = resource_grows r (knows ms (OfResource r)) ms
  type_grows (Func f) ms = growing_as description.TyEqual ms (write_func f ms) (func_grows f ms)
  type_grows (Instance es) ms =
      growing_as description.TyEqual ms (then_decls tree.Instance (write_entries tree.Export es (opened 1 ∷ ms)))
      (growing_decls tree.Instance 1 ms (write_entries tree.Export es (opened 1 ∷ ms)) (entries_grow tree.Export es (opened 1 ∷ ms)))
  type_grows (Component is es) ms =
      growing_as description.TyEqual ms (then_decls tree.Component (option_and_then (write_entries tree.Export es) (write_entries tree.Import is (opened 2 ∷ ms))))
      (growing_decls tree.Component 2 ms (option_and_then (write_entries tree.Export es) (write_entries tree.Import is (opened 2 ∷ ms)))
      (entries_then (write_entries tree.Export es) (opened 2 ∷ ms) (write_entries tree.Import is (opened 2 ∷ ms)) (entries_grow tree.Import is (opened 2 ∷ ms)) (λ next. entries_grow tree.Export es next)))

  pub entries_grow : (item : List ℕ → TypeRef → DeclTree) (es : Entries) (ms : List WrittenScope) → EntriesGrow ms (write_entries item es ms)
  entries_grow item no_entry ms = all_same ms
  entries_grow item (entry name e mark es) ms =
      entry_grows item name e ms (λ next. write_entries item es next) (write_entity e ms) (entity_grows e ms) (λ next. entries_grow item es next)
