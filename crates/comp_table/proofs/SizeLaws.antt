-- Laws of sizes: those of entities are those of their trees of heads, and sums of them as numbers of the machine.
use Rattle.std.specs.Prelude.{◌≡◌, ℕ, ◌+◌, ◌-◌, ◌<◌, ◌≤◌, List, [], ◌∷◌, ◌++◌, map, length, Option, Some, None, refl, cond, slice_index_or}
use Rattle.std.specs.Option.{option_map_or}
use Rattle.std.specs.List.{sum_by}
use Rattle.std.proofs.Common.{ap, sym, ◌∙◌, arith, inl, inr, take}
use Rattle.std.proofs.lemmas.Bool.{cases_lt, lt-ltb, le-ltb}
use Rattle.std.proofs.lemmas.List.{take_more}
use Rattle.std.proofs.lemmas.List.Sums.{sum-map, sum_by-cons}
use Rattle.comp_format.specs.declared.core_types.CoreVal.{CoreVal}
use Rattle.comp_entity.specs.declared.module.CoreShape.{CoreShape}
use Rattle.comp_entity.specs.declared.module.CoreShape.TheVariants as core
use Rattle.comp_entity.specs.declared.module.ModuleShape.{ModuleShape}
use Rattle.comp_entity.specs.Entity.{ValueTree, Primitive, TupleOf, RecordOf, VariantOf, ListOf, FlagsOf, EnumOf, OptionOf, ResultOf, Own, Borrow, ValueTrees, Cases, no_case, labelled, Payload, absent, present, FuncTree, TypeShapeTree, Value, Resource, Func, Instance, Component, EntityTree, IsType, IsFunc, IsInstance, IsComponent, IsModule, IsOwnModule, Entries, no_entry, entry}
use Rattle.comp_entity.specs.Entity as entity
use Rattle.comp_entity.specs.Bounds.{value_nodes, parts_nodes, cases_nodes, payload_nodes, func_nodes, module_nodes, type_nodes, entity_nodes, entries_nodes}
use Rattle.comp_table.specs.declared.head.Head.{Head}
use Rattle.comp_table.specs.declared.head.Head.TheVariants as head
use Rattle.comp_table.specs.Trees.{PlainTree, trees_of, tree_at, node_tree}
use Rattle.comp_table.specs.Plain.{leaf, plain_labels, plain_value, plain_values, plain_cases, plain_payload, plain_result, plain_param, plain_func, plain_core, plain_import, plain_export, plain_module, plain_type, plain_entity, plain_entries}
use Rattle.comp_table.specs.Facts.{largest, capped, head_size, tree_size, trees_size}

-- numbers of the machine
small : (n : ℕ) → n < largest → capped n ≡ n
small n lt = ap (λ b. cond b n largest) (lt-ltb n largest lt)

large : (n : ℕ) → largest ≤ n → capped n ≡ largest
large n le = ap (λ b. cond b n largest) (le-ltb n largest le)

-- a capped number, by subtraction
pub capped_is : (n : ℕ) → capped n ≡ largest - (largest - n)
capped_is n = elim (cases_lt n largest) [
  | inl lt ↦ small n lt ∙ omega (arith, lt)
  | inr le ↦ large n le ∙ omega (arith, le)
]

pub capped_right : (a b : ℕ) → capped (a + capped b) ≡ capped (a + b)
capped_right a b = let h = capped_is b in capped_is (a + capped b) ∙ omega (arith, h) ∙ sym (capped_is (a + b))

pub capped_both : (a b : ℕ) → capped (capped a + capped b) ≡ capped (a + b)
capped_both a b = let h = capped_is a in let k = capped_is b in capped_is (capped a + capped b) ∙ omega (arith, h, k) ∙ sym (capped_is (a + b))

-- the size of parts that stand under numbers
abbrev pub parts_size : List PlainTree → List ℕ → ℕ
parts_size ts ps = trees_size (trees_of (map (tree_at ts) ps))

parts_size_more : (ts : List PlainTree) (ps : List ℕ) (p : ℕ) → parts_size ts (ps ++ p ∷ []) ≡ parts_size ts ps + tree_size (tree_at ts p)
parts_size_more ts [] p = omega arith
parts_size_more ts (q ∷ ps) p = let h = parts_size_more ts ps p in omega (arith, h)

-- one part more
pub size_step : (ts : List PlainTree) (ps : List ℕ) (i n s m : ℕ) → i < length ps → n ≡ capped (parts_size ts (take i ps)) → s ≡ capped (tree_size (tree_at ts (slice_index_or ps i 0))) → m ≡ capped (n + s) → m ≡ capped (parts_size ts (take (i + 1) ps))
size_step ts ps i n s m lt n_is s_is m_is =
    let p = slice_index_or ps i 0 in
    m_is ∙ (λ x. capped (n_is x + s_is x)) ∙ capped_both (parts_size ts (take i ps)) (tree_size (tree_at ts p))
    ∙ ap capped (sym (ap (parts_size ts) (take_more ps i 0 lt) ∙ parts_size_more ts (take i ps) p))

-- a head and parts
pub size_whole : (ts : List PlainTree) (h : Head) (ps : List ℕ) (n s m : ℕ) → n ≡ head_size h → s ≡ capped (parts_size ts ps) → m ≡ capped (n + s) → m ≡ capped (tree_size (node_tree ts h ps))
size_whole ts h ps n s m n_is s_is m_is = m_is ∙ (λ x. capped (n_is x + s_is x)) ∙ capped_right (head_size h) (parts_size ts ps)

-- sizes of entities
labels_size : (ls : List (List ℕ)) → trees_size (plain_labels ls) ≡ 0
labels_size [] = refl
labels_size (l ∷ ls) = let h = labels_size ls in omega (arith, h)

mutual
  value_size : (v : ValueTree) → tree_size (plain_value v) ≡ value_nodes v
  value_size (Primitive p) = refl
  value_size (TupleOf ts) = let h = values_size ts in omega (arith, h)
  value_size (RecordOf place ts) = let h = cases_size ts in omega (arith, h)
  value_size (VariantOf place ts) = let h = cases_size ts in omega (arith, h)
  value_size (ListOf t) = let h = value_size t in omega (arith, h)
  value_size (FlagsOf place ls) = let h = labels_size ls in omega (arith, h)
  value_size (EnumOf place ls) = let h = labels_size ls in omega (arith, h)
  value_size (OptionOf t) = let h = value_size t in omega (arith, h)
  value_size (ResultOf ok err) = let h = payload_size ok in let k = payload_size err in omega (arith, h, k)
  value_size (Own r) = refl
  value_size (Borrow r) = refl

  values_size : (ts : ValueTrees) → trees_size (plain_values ts) ≡ parts_nodes ts
  values_size entity.none = refl
  values_size (entity.more t ts) = let h = value_size t in let k = values_size ts in omega (arith, h, k)

  cases_size : (cs : Cases) → trees_size (plain_cases cs) ≡ cases_nodes cs
  cases_size no_case = refl
  cases_size (labelled l p cs) = let h = payload_size p in let k = cases_size cs in omega (arith, h, k)

  payload_size : (p : Payload) → tree_size (plain_payload p) ≡ payload_nodes p
  payload_size absent = refl
  payload_size (present t) = value_size t

result_size : (r : Option ValueTree) → tree_size (plain_result r) ≡ option_map_or value_nodes r 0
result_size None = refl
result_size (Some t) = value_size t

params_size : (ps : List (List ℕ × ValueTree)) → trees_size (trees_of (map plain_param ps)) ≡ sum_by (λ p. value_nodes p.1) ps
params_size [] = refl
params_size (p ∷ ps) =
    let h = value_size p.1 in
    let k = params_size ps in
    let s = sum_by-cons (λ (q : List ℕ × ValueTree). value_nodes q.1) p ps in
    omega (arith, h, k, s)

func_size : (f : FuncTree) → tree_size (plain_func f) ≡ func_nodes f
func_size f =
    let h = params_size f.params in
    let k = result_size f.result in
    let s = sum-map (λ (p : List ℕ × ValueTree). value_nodes p.1) f.params in
    omega (arith, h, k, s)

core_values_size : (vs : List CoreVal) → trees_size (trees_of (map (λ v. leaf (head.CoreValue v)) vs)) ≡ 0
core_values_size [] = refl
core_values_size (v ∷ vs) = let h = core_values_size vs in omega (arith, h)

core_size : (c : CoreShape) → tree_size (plain_core c) ≡ 1
core_size (core.Func ps rs) = let h = core_values_size ps in let k = core_values_size rs in omega (arith, h, k)
core_size (core.Table v l) = refl
core_size (core.Memory l) = refl
core_size (core.Global v m) = refl

imports_size : (is : List (List ℕ × List ℕ × CoreShape)) → trees_size (trees_of (map plain_import is)) ≡ length is
imports_size [] = refl
imports_size (i ∷ is) = let h = core_size i.2 in let k = imports_size is in omega (arith, h, k)

exports_size : (es : List (List ℕ × CoreShape)) → trees_size (trees_of (map plain_export es)) ≡ length es
exports_size [] = refl
exports_size (e ∷ es) = let h = core_size e.1 in let k = exports_size es in omega (arith, h, k)

module_size : (m : ModuleShape) → tree_size (plain_module m) ≡ module_nodes m
module_size m = let h = imports_size m.imports in let k = exports_size m.exports in omega (arith, h, k)

mutual
  type_size : (t : TypeShapeTree) → tree_size (plain_type t) ≡ type_nodes t
  type_size (Value v) = value_size v
  type_size (Resource r) = refl
  type_size (Func f) = func_size f
  type_size (Instance es) = let h = entries_size es in omega (arith, h)
  type_size (Component is es) = let h = entries_size is in let k = entries_size es in omega (arith, h, k)

  pub entity_size : (e : EntityTree) → tree_size (plain_entity e) ≡ entity_nodes e
  entity_size (IsType t) = type_size t
  entity_size (IsFunc f) = let h = func_size f in omega (arith, h)
  entity_size (IsInstance es) = let h = entries_size es in omega (arith, h)
  entity_size (IsComponent is es) = let h = entries_size is in let k = entries_size es in omega (arith, h, k)
  entity_size (IsModule m) = module_size m
  entity_size IsOwnModule = refl

  entries_size : (es : Entries) → trees_size (plain_entries es) ≡ entries_nodes es
  entries_size no_entry = refl
  entries_size (entry name e mark es) = let h = entity_size e in let k = entries_size es in omega (arith, h, k)
