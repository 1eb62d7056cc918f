-- Trees of heads mention what entities do.
use Rattle.std.specs.Prelude.{◌≡◌, ℕ, suc, List, [], ◌∷◌, ◌++◌, map, flat_map, Option, Some, None, option_to_list, refl}
use Rattle.std.proofs.Common.{ap, sym, ◌∙◌}
use Rattle.std.proofs.lemmas.List.{append-nil}
use Rattle.comp_format.specs.declared.core_types.CoreVal.{CoreVal}
use Rattle.comp_entity.specs.declared.module.CoreShape.{CoreShape}
use Rattle.comp_entity.specs.declared.module.CoreShape.TheVariants as core
use Rattle.comp_entity.specs.declared.module.ModuleShape.{ModuleShape}
use Rattle.comp_entity.specs.Entity.{ValueTree, Primitive, TupleOf, RecordOf, VariantOf, ListOf, FlagsOf, EnumOf, OptionOf, ResultOf, Own, Borrow, ValueTrees, Cases, no_case, labelled, Payload, absent, present, FuncTree, TypeShapeTree, Value, Resource, Func, Instance, Component, EntityTree, IsType, IsFunc, IsInstance, IsComponent, IsModule, IsOwnModule, Entries, no_entry, entry}
use Rattle.comp_entity.specs.Entity as entity
use Rattle.comp_entity.specs.Names.{Mention, at_place, in_value, in_values, in_cases, in_payload, in_func, in_type, in_entity, in_entries}
use Rattle.comp_mention.specs.Mentions.{tree_mentions, trees_mentions}
use Rattle.comp_table.specs.declared.head.Head.TheVariants as head
use Rattle.comp_table.specs.Trees.{PlainTree, tree, trees_of}
use Rattle.comp_table.specs.Plain.{leaf, plain_labels, plain_value, plain_values, plain_cases, plain_payload, plain_result, plain_param, plain_func, plain_core, plain_import, plain_export, plain_module, plain_type, plain_entity, plain_entries}

-- lists in which nothing is mentioned
all_silent : {X : Type 0} (plain : X → PlainTree) (silent : (d : ℕ) (x : X) → tree_mentions d (plain x) ≡ []) (d : ℕ) (xs : List X) → trees_mentions d (trees_of (map plain xs)) ≡ []
all_silent plain silent d [] = refl
all_silent plain silent d (x ∷ xs) = λ i. silent d x i ++ all_silent plain silent d xs i

labels_silent : (d : ℕ) (ls : List (List ℕ)) → trees_mentions d (plain_labels ls) ≡ []
labels_silent = all_silent (λ label. leaf (head.Label label)) (λ d l. refl)

-- what one part mentions, and two
one_part : (d : ℕ) (t : PlainTree) (ms : List (ℕ × Mention)) → tree_mentions d t ≡ ms → tree_mentions d t ++ [] ≡ ms
one_part d t ms e = append-nil (tree_mentions d t) ∙ e

two_parts : (d : ℕ) (s t : PlainTree) (ms ns : List (ℕ × Mention)) → tree_mentions d s ≡ ms → tree_mentions d t ≡ ns → tree_mentions d s ++ (tree_mentions d t ++ []) ≡ ms ++ ns
two_parts d s t ms ns e f = λ i. e i ++ one_part d t ns f i

mutual
  value_mentions : (d : ℕ) (v : ValueTree) → tree_mentions d (plain_value v) ≡ in_value d v
  value_mentions d (Primitive p) = refl
  value_mentions d (TupleOf ts) = values_mention d ts
  value_mentions d (RecordOf place ts) = ap (λ ms. at_place d place ++ ms) (cases_mention d ts)
  value_mentions d (VariantOf place ts) = ap (λ ms. at_place d place ++ ms) (cases_mention d ts)
  value_mentions d (ListOf t) = one_part d (plain_value t) (in_value d t) (value_mentions d t)
  value_mentions d (FlagsOf place ls) = ap (λ ms. at_place d place ++ ms) (labels_silent d ls) ∙ append-nil (at_place d place)
  value_mentions d (EnumOf place ls) = ap (λ ms. at_place d place ++ ms) (labels_silent d ls) ∙ append-nil (at_place d place)
  value_mentions d (OptionOf t) = one_part d (plain_value t) (in_value d t) (value_mentions d t)
  value_mentions d (ResultOf ok err) = two_parts d (plain_payload ok) (plain_payload err) (in_payload d ok) (in_payload d err) (payload_mentions d ok) (payload_mentions d err)
  value_mentions d (Own r) = refl
  value_mentions d (Borrow r) = refl

  values_mention : (d : ℕ) (ts : ValueTrees) → trees_mentions d (plain_values ts) ≡ in_values d ts
  values_mention d entity.none = refl
  values_mention d (entity.more t ts) = λ i. value_mentions d t i ++ values_mention d ts i

  cases_mention : (d : ℕ) (cs : Cases) → trees_mentions d (plain_cases cs) ≡ in_cases d cs
  cases_mention d no_case = refl
  cases_mention d (labelled l p cs) = λ i. one_part d (plain_payload p) (in_payload d p) (payload_mentions d p) i ++ cases_mention d cs i

  payload_mentions : (d : ℕ) (p : Payload) → tree_mentions d (plain_payload p) ≡ in_payload d p
  payload_mentions d absent = refl
  payload_mentions d (present t) = value_mentions d t

result_mentions : (d : ℕ) (r : Option ValueTree) → tree_mentions d (plain_result r) ≡ flat_map (in_value d) (option_to_list r)
result_mentions d None = refl
result_mentions d (Some t) = value_mentions d t ∙ sym (append-nil (in_value d t))

params_mention : (d : ℕ) (ps : List (List ℕ × ValueTree)) → trees_mentions d (trees_of (map plain_param ps)) ≡ flat_map (λ p. in_value d p.1) ps
params_mention d [] = refl
params_mention d (p ∷ ps) = λ i. one_part d (plain_value p.1) (in_value d p.1) (value_mentions d p.1) i ++ params_mention d ps i

func_mentions_are : (d : ℕ) (f : FuncTree) → tree_mentions d (plain_func f) ≡ in_func d f
func_mentions_are d f = λ i. params_mention d f.params i ++ result_mentions d f.result i

-- core modules mention nothing
core_values_silent : (d : ℕ) (vs : List CoreVal) → tree_mentions d (tree head.Entries (trees_of (map (λ v. leaf (head.CoreValue v)) vs))) ≡ []
core_values_silent d vs = all_silent (λ v. leaf (head.CoreValue v)) (λ e v. refl) d vs

core_silent : (d : ℕ) (c : CoreShape) → tree_mentions d (plain_core c) ≡ []
core_silent d (core.Func params results) = λ i. core_values_silent d params i ++ (core_values_silent d results i ++ [])
core_silent d (core.Table element limits) = refl
core_silent d (core.Memory limits) = refl
core_silent d (core.Global v is_mutable) = refl

import_silent : (d : ℕ) (x : List ℕ × List ℕ × CoreShape) → tree_mentions d (plain_import x) ≡ []
import_silent d x = λ i. (core_silent d x.2 i ++ []) ++ []

export_silent : (d : ℕ) (x : List ℕ × CoreShape) → tree_mentions d (plain_export x) ≡ []
export_silent d x = λ i. core_silent d x.1 i ++ []

module_silent : (d : ℕ) (m : ModuleShape) → tree_mentions d (plain_module m) ≡ []
module_silent d m = λ i. all_silent plain_import import_silent d m.imports i ++ (all_silent plain_export export_silent d m.exports i ++ [])

mutual
  type_mentions : (d : ℕ) (t : TypeShapeTree) → tree_mentions d (plain_type t) ≡ in_type d t
  type_mentions d (Value t) = value_mentions d t
  type_mentions d (Resource r) = refl
  type_mentions d (Func f) = func_mentions_are d f
  type_mentions d (Instance es) = entries_mention (suc d) es
  type_mentions d (Component is es) = two_parts (suc (suc d)) (tree head.Entries (plain_entries is)) (tree head.Entries (plain_entries es)) (in_entries (suc (suc d)) is) (in_entries (suc (suc d)) es) (entries_mention (suc (suc d)) is) (entries_mention (suc (suc d)) es)

  pub entity_mentions : (d : ℕ) (e : EntityTree) → tree_mentions d (plain_entity e) ≡ in_entity d e
  entity_mentions d (IsType t) = type_mentions d t
  entity_mentions d (IsFunc f) = one_part d (plain_func f) (in_func d f) (func_mentions_are d f)
  entity_mentions d (IsInstance es) = entries_mention d es
  entity_mentions d (IsComponent is es) = two_parts (suc (suc d)) (tree head.Entries (plain_entries is)) (tree head.Entries (plain_entries es)) (in_entries (suc (suc d)) is) (in_entries (suc (suc d)) es) (entries_mention (suc (suc d)) is) (entries_mention (suc (suc d)) es)
  entity_mentions d (IsModule m) = module_silent d m
  entity_mentions d IsOwnModule = refl

  entries_mention : (d : ℕ) (es : Entries) → trees_mentions d (plain_entries es) ≡ in_entries d es
  entries_mention d no_entry = refl
  entries_mention d (entry name e mark es) = λ i. one_part d (plain_entity e) (in_entity d e) (entity_mentions d e) i ++ entries_mention d es i
