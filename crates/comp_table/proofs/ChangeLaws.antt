-- Laws of changes of names: an entity in other names has the tree of heads of the entity in these names.
use Rattle.std.specs.Prelude.{◌≡◌, ℕ, suc, List, [], ◌∷◌, map, Option, Some, None, option_map, refl}
use Rattle.std.proofs.Common.{ap}
use Rattle.comp_format.specs.declared.core_types.CoreVal.{CoreVal}
use Rattle.comp_entity.specs.declared.module.CoreShape.{CoreShape}
use Rattle.comp_entity.specs.declared.module.CoreShape.TheVariants as core
use Rattle.comp_entity.specs.declared.module.ModuleShape.{ModuleShape}
use Rattle.comp_entity.specs.Entity.{ValueTree, Primitive, TupleOf, RecordOf, VariantOf, ListOf, FlagsOf, EnumOf, OptionOf, ResultOf, Own, Borrow, ValueTrees, Cases, no_case, labelled, Payload, absent, present, FuncTree, TypeShapeTree, Value, Resource, Func, Instance, Component, EntityTree, IsType, IsFunc, IsInstance, IsComponent, IsModule, IsOwnModule, Entries, no_entry, entry}
use Rattle.comp_entity.specs.Entity as entity
use Rattle.comp_entity.specs.Names.{Change, place_by, value_by, values_by, cases_by, payload_by, func_by, type_by, entity_by, entries_by}
use Rattle.comp_table.specs.declared.head.Head.TheVariants as head
use Rattle.comp_table.specs.Trees.{PlainTree, tree, more, trees_of}
use Rattle.comp_table.specs.Plain.{leaf, around, around_two, under_label, plain_labels, plain_value, plain_values, plain_cases, plain_payload, plain_result, plain_param, plain_func, plain_core, plain_import, plain_export, plain_module, plain_type, plain_entity, plain_entries}
use Rattle.comp_table.specs.Changes.{tree_by, trees_by}

module _ (c : Change) where
  -- lists in which no name stands
  all_kept : {X : Type 0} (plain : X → PlainTree) (kept : (d : ℕ) (x : X) → plain x ≡ tree_by c d (plain x)) (d : ℕ) (xs : List X) → trees_of (map plain xs) ≡ trees_by c d (trees_of (map plain xs))
  all_kept plain kept d [] = refl
  all_kept plain kept d (x ∷ xs) = λ i. more (kept d x i) (all_kept plain kept d xs i)

  labels_kept : (d : ℕ) (ls : List (List ℕ)) → plain_labels ls ≡ trees_by c d (plain_labels ls)
  labels_kept = all_kept (λ label. leaf (head.Label label)) (λ d l. refl)

  mutual
    value_changed : (d : ℕ) (v : ValueTree) → plain_value (value_by c d v) ≡ tree_by c d (plain_value v)
    value_changed d (Primitive p) = refl
    value_changed d (TupleOf ts) = ap (tree head.TupleOf) (values_changed d ts)
    value_changed d (RecordOf place ts) = ap (tree (head.RecordOf (place_by c d place))) (cases_changed d ts)
    value_changed d (VariantOf place ts) = ap (tree (head.VariantOf (place_by c d place))) (cases_changed d ts)
    value_changed d (ListOf t) = ap (around head.ListOf) (value_changed d t)
    value_changed d (FlagsOf place ls) = ap (tree (head.FlagsOf (place_by c d place))) (labels_kept d ls)
    value_changed d (EnumOf place ls) = ap (tree (head.EnumOf (place_by c d place))) (labels_kept d ls)
    value_changed d (OptionOf t) = ap (around head.OptionOf) (value_changed d t)
    value_changed d (ResultOf ok err) = λ i. around_two head.ResultOf (payload_changed d ok i) (payload_changed d err i)
    value_changed d (Own r) = refl
    value_changed d (Borrow r) = refl

    values_changed : (d : ℕ) (ts : ValueTrees) → plain_values (values_by c d ts) ≡ trees_by c d (plain_values ts)
    values_changed d entity.none = refl
    values_changed d (entity.more t ts) = λ i. more (value_changed d t i) (values_changed d ts i)

    cases_changed : (d : ℕ) (cs : Cases) → plain_cases (cases_by c d cs) ≡ trees_by c d (plain_cases cs)
    cases_changed d no_case = refl
    cases_changed d (labelled l p cs) = λ i. more (under_label l (payload_changed d p i)) (cases_changed d cs i)

    payload_changed : (d : ℕ) (p : Payload) → plain_payload (payload_by c d p) ≡ tree_by c d (plain_payload p)
    payload_changed d absent = refl
    payload_changed d (present t) = value_changed d t

  result_changed : (d : ℕ) (r : Option ValueTree) → plain_result (option_map (value_by c d) r) ≡ tree_by c d (plain_result r)
  result_changed d None = refl
  result_changed d (Some t) = value_changed d t

  params_changed : (d : ℕ) (ps : List (List ℕ × ValueTree)) → trees_of (map plain_param (map (λ p. (p.0, value_by c d p.1)) ps)) ≡ trees_by c d (trees_of (map plain_param ps))
  params_changed d [] = refl
  params_changed d (p ∷ ps) = λ i. more (under_label p.0 (value_changed d p.1 i)) (params_changed d ps i)

  func_changed : (d : ℕ) (f : FuncTree) → plain_func (func_by c d f) ≡ tree_by c d (plain_func f)
  func_changed d f = λ i. tree head.FuncType (more (result_changed d f.result i) (params_changed d f.params i))

  core_values_kept : (d : ℕ) (vs : List CoreVal) → trees_of (map (λ v. leaf (head.CoreValue v)) vs) ≡ trees_by c d (trees_of (map (λ v. leaf (head.CoreValue v)) vs))
  core_values_kept = all_kept (λ v. leaf (head.CoreValue v)) (λ d v. refl)

  core_kept : (d : ℕ) (t : CoreShape) → plain_core t ≡ tree_by c d (plain_core t)
  core_kept d (core.Func ps rs) = λ i. around_two head.CoreFunc (tree head.Entries (core_values_kept d ps i)) (tree head.Entries (core_values_kept d rs i))
  core_kept d (core.Table v l) = refl
  core_kept d (core.Memory l) = refl
  core_kept d (core.Global v m) = refl

  module_kept : (d : ℕ) (m : ModuleShape) → plain_module m ≡ tree_by c d (plain_module m)
  module_kept d m =
      let imports = all_kept plain_import (λ d x. ap (λ t. under_label x.0 (under_label x.1 t)) (core_kept d x.2)) d m.imports in
      let exports = all_kept plain_export (λ d x. ap (under_label x.0) (core_kept d x.1)) d m.exports in
      λ i. around_two head.Module (tree head.Entries (imports i)) (tree head.Entries (exports i))

  mutual
    type_changed : (d : ℕ) (t : TypeShapeTree) → plain_type (type_by c d t) ≡ tree_by c d (plain_type t)
    type_changed d (Value v) = value_changed d v
    type_changed d (Resource r) = refl
    type_changed d (Func f) = func_changed d f
    type_changed d (Instance es) = ap (tree head.InstanceType) (entries_changed (suc d) es)
    type_changed d (Component is es) =
        λ i. around_two head.ComponentType (tree head.Entries (entries_changed (suc (suc d)) is i)) (tree head.Entries (entries_changed (suc (suc d)) es i))

    pub entity_changed : (d : ℕ) (e : EntityTree) → plain_entity (entity_by c d e) ≡ tree_by c d (plain_entity e)
    entity_changed d (IsType t) = type_changed d t
    entity_changed d (IsFunc f) = ap (around head.Func) (func_changed d f)
    entity_changed d (IsInstance es) = ap (tree head.Instance) (entries_changed d es)
    entity_changed d (IsComponent is es) =
        λ i. around_two head.Component (tree head.Entries (entries_changed (suc (suc d)) is i)) (tree head.Entries (entries_changed (suc (suc d)) es i))
    entity_changed d (IsModule m) = module_kept d m
    entity_changed d IsOwnModule = refl

    entries_changed : (d : ℕ) (es : Entries) → plain_entries (entries_by c d es) ≡ trees_by c d (plain_entries es)
    entries_changed d no_entry = refl
    entries_changed d (entry name e mark es) = λ i. more (around (head.Entry (c.mark mark) name) (entity_changed d e i)) (entries_changed d es i)
