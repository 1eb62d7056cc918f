-- Laws of trees of heads in which each entry is given the naming bit: where there is no entry, nothing changes.
use Rattle.std.specs.Prelude.{◌≡◌, ℕ, List, [], ◌∷◌, map, Option, Some, None, refl}
use Rattle.std.proofs.Common.{ap}
use Rattle.comp_format.specs.declared.core_types.CoreVal.{CoreVal}
use Rattle.comp_entity.specs.declared.module.CoreShape.{CoreShape}
use Rattle.comp_entity.specs.declared.module.CoreShape.TheVariants as core
use Rattle.comp_entity.specs.declared.module.ModuleShape.{ModuleShape}
use Rattle.comp_entity.specs.Entity.{ValueTree, Primitive, TupleOf, RecordOf, VariantOf, ListOf, FlagsOf, EnumOf, OptionOf, ResultOf, Own, Borrow, ValueTrees, Cases, no_case, labelled, Payload, absent, present, FuncTree}
use Rattle.comp_entity.specs.Entity as entity
use Rattle.comp_entity.specs.Names.{Change}
use Rattle.comp_table.specs.Changes.{head_by, scopes_in, tree_by, trees_by}
use Rattle.comp_table.specs.declared.head.Head.TheVariants as head
use Rattle.comp_table.specs.Plain.{leaf, around, around_two, under_label, plain_labels, plain_value, plain_values, plain_cases, plain_payload, plain_result, plain_param, plain_func, plain_core, plain_import, plain_export, plain_module}
use Rattle.comp_table.specs.Rows.{core_value_plain}
use Rattle.comp_table.specs.Trees.{PlainTree, tree, more, trees_of, root, below_root}
use Rattle.comp_view.specs.Kinds.{all_named}

labels_same : (d : ℕ) (ls : List (List ℕ)) → trees_by all_named d (plain_labels ls) ≡ plain_labels ls
labels_same d [] = refl
labels_same d (l ∷ ls) = ap (more (leaf (head.Label l))) (labels_same d ls)

mutual
  pub value_same : (d : ℕ) (v : ValueTree) → tree_by all_named d (plain_value v) ≡ plain_value v
  value_same d (Primitive p) = refl
  value_same d (TupleOf parts) = ap (tree head.TupleOf) (values_same d parts)
  value_same d (RecordOf None fields) = ap (tree (head.RecordOf None)) (cases_same d fields)
  value_same d (RecordOf (Some n) fields) = ap (tree (head.RecordOf (Some n))) (cases_same d fields)
  value_same d (VariantOf None cases) = ap (tree (head.VariantOf None)) (cases_same d cases)
  value_same d (VariantOf (Some n) cases) = ap (tree (head.VariantOf (Some n))) (cases_same d cases)
  value_same d (ListOf t) = ap (around head.ListOf) (value_same d t)
  value_same d (FlagsOf None labels) = ap (tree (head.FlagsOf None)) (labels_same d labels)
  value_same d (FlagsOf (Some n) labels) = ap (tree (head.FlagsOf (Some n))) (labels_same d labels)
  value_same d (EnumOf None labels) = ap (tree (head.EnumOf None)) (labels_same d labels)
  value_same d (EnumOf (Some n) labels) = ap (tree (head.EnumOf (Some n))) (labels_same d labels)
  value_same d (OptionOf t) = ap (around head.OptionOf) (value_same d t)
  value_same d (ResultOf ok err) = λ i. around_two head.ResultOf (payload_same d ok i) (payload_same d err i)
  value_same d (Own r) = refl
  value_same d (Borrow r) = refl

  values_same : (d : ℕ) (ts : ValueTrees) → trees_by all_named d (plain_values ts) ≡ plain_values ts
  values_same d entity.none = refl
  values_same d (entity.more t ts) = λ i. more (value_same d t i) (values_same d ts i)

  cases_same : (d : ℕ) (cs : Cases) → trees_by all_named d (plain_cases cs) ≡ plain_cases cs
  cases_same d no_case = refl
  cases_same d (labelled label payload cs) = λ i. more (under_label label (payload_same d payload i)) (cases_same d cs i)

  payload_same : (d : ℕ) (p : Payload) → tree_by all_named d (plain_payload p) ≡ plain_payload p
  payload_same d absent = refl
  payload_same d (present t) = value_same d t

result_same : (d : ℕ) (r : Option ValueTree) → tree_by all_named d (plain_result r) ≡ plain_result r
result_same d None = refl
result_same d (Some t) = value_same d t

params_same : (d : ℕ) (ps : List (List ℕ × ValueTree)) → trees_by all_named d (trees_of (map plain_param ps)) ≡ trees_of (map plain_param ps)
params_same d [] = refl
params_same d (p ∷ ps) = λ i. more (under_label p.0 (value_same d p.1 i)) (params_same d ps i)

pub func_same : (d : ℕ) (f : FuncTree) → tree_by all_named d (plain_func f) ≡ plain_func f
func_same d f = λ i. tree head.FuncType (more (result_same d f.result i) (params_same d f.params i))

core_values_same : (d : ℕ) (vs : List CoreVal) → trees_by all_named d (trees_of (map core_value_plain vs)) ≡ trees_of (map core_value_plain vs)
core_values_same d [] = refl
core_values_same d (v ∷ vs) = ap (more (core_value_plain v)) (core_values_same d vs)

core_same : (d : ℕ) (c : CoreShape) → tree_by all_named d (plain_core c) ≡ plain_core c
core_same d (core.Func params results) = λ i. around_two head.CoreFunc (tree head.Entries (core_values_same d params i)) (tree head.Entries (core_values_same d results i))
core_same d (core.Table element limits) = refl
core_same d (core.Memory limits) = refl
core_same d (core.Global v is_mutable) = refl

imports_same : (d : ℕ) (xs : List (List ℕ × List ℕ × CoreShape)) → trees_by all_named d (trees_of (map plain_import xs)) ≡ trees_of (map plain_import xs)
imports_same d [] = refl
imports_same d (x ∷ xs) = λ i. more (under_label x.0 (under_label x.1 (core_same d x.2 i))) (imports_same d xs i)

exports_same : (d : ℕ) (xs : List (List ℕ × CoreShape)) → trees_by all_named d (trees_of (map plain_export xs)) ≡ trees_of (map plain_export xs)
exports_same d [] = refl
exports_same d (x ∷ xs) = λ i. more (under_label x.0 (core_same d x.1 i)) (exports_same d xs i)

pub module_same : (d : ℕ) (m : ModuleShape) → tree_by all_named d (plain_module m) ≡ plain_module m
module_same d m = λ i. around_two head.Module (tree head.Entries (imports_same d m.imports i)) (tree head.Entries (exports_same d m.exports i))

-- a changed tree by its root and its parts
pub by_parts : (c : Change) (d : ℕ) (t : PlainTree) → tree_by c d t ≡ tree (head_by c d (root t)) (trees_by c (scopes_in (root t) d) (below_root t))
by_parts c d (tree h us) = refl

pub trees_named : (c : Change) (d : ℕ) (f : ℕ → PlainTree) (ps : List ℕ) → trees_by c d (trees_of (map f ps)) ≡ trees_of (map (λ p. tree_by c d (f p)) ps)
trees_named c d f [] = refl
trees_named c d f (p ∷ ps) = ap (more (tree_by c d (f p))) (trees_named c d f ps)
