-- That an entity keeps the rules on names, labels and parts is one fact: there is one proof of it at most.
use Rattle.std.proofs.Common.{ℕ, List, Option, Some, None}
use Rattle.std.proofs.Props.{props}
use Rattle.std.specs.Prelude.{IfSome}
use Rattle.comp_format.specs.Forms.{AreLabels}
use Rattle.comp_entity.specs.declared.module.CoreShape.{CoreShape}
use Rattle.comp_entity.specs.declared.module.CoreShape.TheVariants as core_shape
use Rattle.comp_entity.specs.declared.module.ModuleShape.{ModuleShape}
use Rattle.comp_entity.specs.Entity.{ValueTree, Primitive, TupleOf, RecordOf, VariantOf, ListOf, FlagsOf, EnumOf, OptionOf, ResultOf, Own, Borrow, ValueTrees, none, more, Cases, no_case, labelled, Payload, absent, present, FuncTree, TypeShapeTree, Value, Resource, Func, Instance, Component, EntityTree, IsType, IsFunc, IsInstance, IsComponent, IsModule, IsOwnModule, Entries, no_entry, entry}
use Rattle.compose_writing.specs.Conditions.{HasPart, IsThere, AreFields, AreLabelled, KeepsValue, KeepsValues, KeepsCases, KeepsPayload, KeepsFunc, KeepsCore, KeepsModule, KeepsType, KeepsForm, KeepsEntries, labels_of}

has_part : (ts : ValueTrees) → IsProp (HasPart ts)
has_part none = hlevel props
has_part (more t ts) = hlevel props

is_there : (p : Payload) → IsProp (IsThere p)
is_there absent = hlevel props
is_there (present t) = hlevel props

are_fields : (cs : Cases) → IsProp (AreFields cs)
are_fields no_case = hlevel props
are_fields (labelled label payload cs) = hlevel (is_there payload, are_fields cs)

are_labels : (labels : List (List ℕ)) → IsProp (AreLabels labels)
are_labels labels = hlevel props

are_labelled : (cs : Cases) → IsProp (AreLabelled cs)
are_labelled cs = hlevel (props, are_labels (labels_of cs))

mutual
  one_value : (t : ValueTree) → IsProp (KeepsValue t)
  one_value (Primitive p) = hlevel props
  one_value (TupleOf parts) = hlevel (has_part parts, one_values parts)
  one_value (RecordOf place fields) = hlevel (are_labelled fields, are_fields fields, one_cases fields)
  one_value (VariantOf place cases) = hlevel (are_labelled cases, one_cases cases)
  one_value (ListOf t) = one_value t
  one_value (FlagsOf place labels) = hlevel (props, are_labels labels)
  one_value (EnumOf place labels) = hlevel (props, are_labels labels)
  one_value (OptionOf t) = one_value t
  one_value (ResultOf ok err) = hlevel (one_payload ok, one_payload err)
  one_value (Own r) = hlevel props
  one_value (Borrow r) = hlevel props

  one_values : (ts : ValueTrees) → IsProp (KeepsValues ts)
  one_values none = hlevel props
  one_values (more t ts) = hlevel (one_value t, one_values ts)

  one_cases : (cs : Cases) → IsProp (KeepsCases cs)
  one_cases no_case = hlevel props
  one_cases (labelled label payload cs) = hlevel (one_payload payload, one_cases cs)

  one_payload : (p : Payload) → IsProp (KeepsPayload p)
  one_payload absent = hlevel props
  one_payload (present t) = one_value t

one_result : (o : Option ValueTree) → IsProp (IfSome o KeepsValue)
one_result None = hlevel props
one_result (Some t) = one_value t

one_func : (f : FuncTree) → IsProp (KeepsFunc f)
one_func f = hlevel (props, are_labels, one_value, one_result f.result)

one_core : (s : CoreShape) → IsProp (KeepsCore s)
one_core (core_shape.Func params results) = hlevel props
one_core (core_shape.Table element limits) = hlevel props
one_core (core_shape.Memory limits) = hlevel props
one_core (core_shape.Global v is_mutable) = hlevel props

one_module : (m : ModuleShape) → IsProp (KeepsModule m)
one_module m = hlevel (props, one_core)

mutual
  one_type : (t : TypeShapeTree) → IsProp (KeepsType t)
  one_type (Value t) = one_value t
  one_type (Resource r) = hlevel props
  one_type (Func f) = one_func f
  one_type (Instance es) = one_entries es
  one_type (Component is es) = hlevel (one_entries is, one_entries es)

  pub one_form : (e : EntityTree) → IsProp (KeepsForm e)
  one_form (IsType t) = one_type t
  one_form (IsFunc f) = one_func f
  one_form (IsInstance es) = one_entries es
  one_form (IsComponent is es) = hlevel (one_entries is, one_entries es)
  one_form (IsModule m) = one_module m
  one_form IsOwnModule = hlevel props

  pub one_entries : (es : Entries) → IsProp (KeepsEntries es)
  one_entries no_entry = hlevel props
  one_entries (entry name e mark es) = hlevel (props, one_form e, one_entries es)
