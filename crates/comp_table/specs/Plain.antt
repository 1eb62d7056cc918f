-- Types and entities as trees of heads: what stands in each stands below its head, in order.
use Rattle.std.specs.Prelude.{ℕ, List, map, Option, Some, None}
use Rattle.comp_entity.specs.declared.module.CoreShape.{CoreShape}
use Rattle.comp_entity.specs.declared.module.CoreShape.TheVariants as core
use Rattle.comp_entity.specs.declared.module.ModuleShape.{ModuleShape}
use Rattle.comp_entity.specs.Entity.{ValueTree, Primitive, TupleOf, RecordOf, VariantOf, ListOf, FlagsOf, EnumOf, OptionOf, ResultOf, Own, Borrow, ValueTrees, Cases, no_case, labelled, Payload, absent, present, FuncTree, TypeShapeTree, Value, Resource, Func, Instance, Component, EntityTree, IsType, IsFunc, IsInstance, IsComponent, IsModule, IsOwnModule, Entries, no_entry, entry}
use Rattle.comp_entity.specs.Entity as entity
use Rattle.comp_table.specs.declared.head.Head.{Head}
use Rattle.comp_table.specs.declared.head.Head.TheVariants as head
use Rattle.comp_table.specs.Trees.{PlainTree, tree, PlainTrees, none, more, trees_of}

-- a head without parts, with one part, and with two
abbrev pub leaf : Head → PlainTree
leaf h = tree h none

abbrev pub around : Head → PlainTree → PlainTree
around h t = tree h (more t none)

abbrev pub around_two : Head → PlainTree → PlainTree → PlainTree
around_two h s t = tree h (more s (more t none))

abbrev pub under_label : List ℕ → PlainTree → PlainTree
under_label label t = around (head.Label label) t

abbrev pub plain_labels : List (List ℕ) → PlainTrees
plain_labels labels = trees_of (map (λ label. leaf (head.Label label)) labels)

abbrev mutual
  pub plain_value : ValueTree → PlainTree
  plain_value (Primitive p) = leaf (head.Primitive p)
  plain_value (TupleOf parts) = tree head.TupleOf (plain_values parts)
  plain_value (RecordOf place fields) = tree (head.RecordOf place) (plain_cases fields)
  plain_value (VariantOf place cases) = tree (head.VariantOf place) (plain_cases cases)
  plain_value (ListOf t) = around head.ListOf (plain_value t)
  plain_value (FlagsOf place labels) = tree (head.FlagsOf place) (plain_labels labels)
  plain_value (EnumOf place labels) = tree (head.EnumOf place) (plain_labels labels)
  plain_value (OptionOf t) = around head.OptionOf (plain_value t)
  plain_value (ResultOf ok err) = around_two head.ResultOf (plain_payload ok) (plain_payload err)
  plain_value (Own r) = leaf (head.Own r)
  plain_value (Borrow r) = leaf (head.Borrow r)

  pub plain_values : ValueTrees → PlainTrees
  plain_values entity.none = none
  plain_values (entity.more t ts) = more (plain_value t) (plain_values ts)

  pub plain_cases : Cases → PlainTrees
  plain_cases no_case = none
  plain_cases (labelled label payload cases) = more (under_label label (plain_payload payload)) (plain_cases cases)

  pub plain_payload : Payload → PlainTree
  plain_payload absent = leaf head.Absent
  plain_payload (present t) = plain_value t

abbrev pub plain_result : Option ValueTree → PlainTree
plain_result None = leaf head.Absent
plain_result (Some t) = plain_value t

abbrev pub plain_param : List ℕ × ValueTree → PlainTree
plain_param p = under_label p.0 (plain_value p.1)

abbrev pub plain_func : FuncTree → PlainTree
plain_func f = tree head.FuncType (more (plain_result f.result) (trees_of (map plain_param f.params)))

-- what a core module imports and exports
abbrev pub plain_core : CoreShape → PlainTree
plain_core (core.Func params results) =
    around_two head.CoreFunc (tree head.Entries (trees_of (map (λ v. leaf (head.CoreValue v)) params)))
    (tree head.Entries (trees_of (map (λ v. leaf (head.CoreValue v)) results)))
plain_core (core.Table element limits) = leaf (head.CoreTable element limits)
plain_core (core.Memory limits) = leaf (head.CoreMemory limits)
plain_core (core.Global v is_mutable) = leaf (head.CoreGlobal v is_mutable)

-- an import of a core module, under a module's name and a name, and an export
abbrev pub plain_import : List ℕ × List ℕ × CoreShape → PlainTree
plain_import i = under_label i.0 (under_label i.1 (plain_core i.2))

abbrev pub plain_export : List ℕ × CoreShape → PlainTree
plain_export e = under_label e.0 (plain_core e.1)

abbrev pub plain_module : ModuleShape → PlainTree
plain_module m =
    around_two head.Module (tree head.Entries (trees_of (map plain_import m.imports)))
    (tree head.Entries (trees_of (map plain_export m.exports)))

abbrev mutual
  pub plain_type : TypeShapeTree → PlainTree
  plain_type (Value t) = plain_value t
  plain_type (Resource r) = leaf (head.Resource r)
  plain_type (Func f) = plain_func f
  plain_type (Instance exports) = tree head.InstanceType (plain_entries exports)
  plain_type (Component imports exports) =
      around_two head.ComponentType (tree head.Entries (plain_entries imports)) (tree head.Entries (plain_entries exports))

  pub plain_entity : EntityTree → PlainTree
  plain_entity (IsType t) = plain_type t
  plain_entity (IsFunc f) = around head.Func (plain_func f)
  plain_entity (IsInstance exports) = tree head.Instance (plain_entries exports)
  plain_entity (IsComponent imports exports) =
      around_two head.Component (tree head.Entries (plain_entries imports)) (tree head.Entries (plain_entries exports))
  plain_entity (IsModule m) = plain_module m
  plain_entity IsOwnModule = leaf head.OwnModule

  pub plain_entries : Entries → PlainTrees
  plain_entries no_entry = none
  plain_entries (entry name e mark es) = more (around (head.Entry mark name) (plain_entity e)) (plain_entries es)
