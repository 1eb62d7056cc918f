-- Laws of types and entities as trees of heads: no two have one tree.
use Rattle.std.specs.Prelude.{◌≡◌, ℕ, Bool, true, false, List, [], ◌∷◌, map, Option, Some, None, refl}
use Rattle.std.proofs.Common.{ap, sym, ◌∙◌}
use Rattle.comp_format.specs.declared.types.Primitive.{Primitive as PrimitiveType}
use Rattle.comp_format.specs.declared.types.Primitive.TheVariants as primitive
use Rattle.comp_format.specs.declared.core_types.CoreVal.{CoreVal}
use Rattle.comp_format.specs.declared.core_types.CoreVal.TheVariants as core_value
use Rattle.comp_format.specs.declared.core_types.Limits.{Limits}
use Rattle.comp_entity.specs.declared.module.CoreShape.{CoreShape}
use Rattle.comp_entity.specs.declared.module.CoreShape.TheVariants as core
use Rattle.comp_entity.specs.declared.module.ModuleShape.{ModuleShape}
use Rattle.comp_entity.specs.Entity.{Name, ValueTree, Primitive, TupleOf, RecordOf, VariantOf, ListOf, FlagsOf, EnumOf, OptionOf, ResultOf, Own, Borrow, ValueTrees, Cases, no_case, labelled, Payload, absent, present, FuncTree, TypeShapeTree, Value, Resource, Func, Instance, Component, EntityTree, IsType, IsFunc, IsInstance, IsComponent, IsModule, IsOwnModule, Entries, no_entry, entry}
use Rattle.comp_entity.specs.Entity as entity
use Rattle.comp_table.specs.declared.head.Head.{Head}
use Rattle.comp_table.specs.declared.head.Head.TheVariants as head
use Rattle.comp_table.specs.Trees.{PlainTree, PlainTrees, none, more, trees_of, root, below_root}
use Rattle.comp_table.specs.Plain.{leaf, plain_labels, plain_value, plain_values, plain_cases, plain_payload, plain_result, plain_param, plain_func, plain_core, plain_import, plain_export, plain_module, plain_type, plain_entity, plain_entries}

-- what stands in a head
abbrev primitive_in : Head → PrimitiveType
primitive_in (head.Primitive p) = p
primitive_in _ = primitive.Bool

abbrev place_in : Head → Option Name
place_in (head.RecordOf place) = place
place_in (head.VariantOf place) = place
place_in (head.FlagsOf place) = place
place_in (head.EnumOf place) = place
place_in _ = None

abbrev no_name : Name
no_name = record { out = 0; number = 0 }

abbrev name_in : Head → Name
name_in (head.Own r) = r
name_in (head.Borrow r) = r
name_in (head.Resource r) = r
name_in _ = no_name

abbrev label_in : Head → List ℕ
label_in (head.Label label) = label
label_in (head.Entry mark name) = name
label_in _ = []

abbrev mark_in : Head → Bool
mark_in (head.Entry mark name) = mark
mark_in (head.CoreGlobal v is_mutable) = is_mutable
mark_in _ = false

abbrev core_value_in : Head → CoreVal
core_value_in (head.CoreTable v limits) = v
core_value_in (head.CoreGlobal v is_mutable) = v
core_value_in (head.CoreValue v) = v
core_value_in _ = core_value.V7f

abbrev no_limits : Limits
no_limits = record { min = 0; max = None }

abbrev limits_in : Head → Limits
limits_in (head.CoreTable v limits) = limits
limits_in (head.CoreMemory limits) = limits
limits_in _ = no_limits

-- whether a head is that of a value type, and whether it is that of a type
abbrev is_value : Head → Bool
is_value (head.Primitive p) = true
is_value (head.RecordOf place) = true
is_value (head.VariantOf place) = true
is_value (head.FlagsOf place) = true
is_value (head.EnumOf place) = true
is_value head.ListOf = true
is_value head.TupleOf = true
is_value head.OptionOf = true
is_value head.ResultOf = true
is_value (head.Own r) = true
is_value (head.Borrow r) = true
is_value _ = false

abbrev is_type : Head → Bool
is_type (head.Resource r) = true
is_type head.FuncType = true
is_type head.InstanceType = true
is_type head.ComponentType = true
is_type h = is_value h

value_root : (v : ValueTree) → is_value (root (plain_value v)) ≡ true
value_root (Primitive p) = refl
value_root (TupleOf ts) = refl
value_root (RecordOf place fields) = refl
value_root (VariantOf place cases) = refl
value_root (ListOf t) = refl
value_root (FlagsOf place labels) = refl
value_root (EnumOf place labels) = refl
value_root (OptionOf t) = refl
value_root (ResultOf ok err) = refl
value_root (Own r) = refl
value_root (Borrow r) = refl

value_type_root : (v : ValueTree) → is_type (root (plain_value v)) ≡ true
value_type_root (Primitive p) = refl
value_type_root (TupleOf ts) = refl
value_type_root (RecordOf place fields) = refl
value_type_root (VariantOf place cases) = refl
value_type_root (ListOf t) = refl
value_type_root (FlagsOf place labels) = refl
value_type_root (EnumOf place labels) = refl
value_type_root (OptionOf t) = refl
value_type_root (ResultOf ok err) = refl
value_type_root (Own r) = refl
value_type_root (Borrow r) = refl

type_root : (t : TypeShapeTree) → is_type (root (plain_type t)) ≡ true
type_root (Value v) = value_type_root v
type_root (Resource r) = refl
type_root (Func f) = refl
type_root (Instance es) = refl
type_root (Component is es) = refl

-- a tree of which a test of the root is false is none of which it is true
apart : {P : Type 0} (test : Head → Bool) (s t : PlainTree) → s ≡ t → test (root s) ≡ true → test (root t) ≡ false → P
apart test s t e holds fails = absurd (let h = sym holds ∙ ap (λ x. test (root x)) e ∙ fails in cc)

-- parts
abbrev first_of : PlainTrees → PlainTree
first_of none = leaf head.Absent
first_of (more t ts) = t

abbrev behind : PlainTrees → PlainTrees
behind none = none
behind (more t ts) = ts

abbrev is_more : PlainTrees → Bool
is_more none = false
is_more (more t ts) = true

abbrev part_of : PlainTree → PlainTree
part_of t = first_of (below_root t)

abbrev second_of : PlainTree → PlainTree
second_of t = first_of (behind (below_root t))

-- lists of which each item has a tree of its own
module _ {X : Type 0} (plain : X → PlainTree) (same : (x y : X) → plain x ≡ plain y → x ≡ y) where
  all_same : (xs ys : List X) → trees_of (map plain xs) ≡ trees_of (map plain ys) → xs ≡ ys
  all_same [] [] e = refl
  all_same [] (y ∷ ys) e = absurd (let h = ap is_more e in cc)
  all_same (x ∷ xs) [] e = absurd (let h = ap is_more e in cc)
  all_same (x ∷ xs) (y ∷ ys) e = λ i. same x y (ap first_of e) i ∷ all_same xs ys (ap behind e) i

labels_same : (ls ks : List (List ℕ)) → plain_labels ls ≡ plain_labels ks → ls ≡ ks
labels_same = all_same (λ label. leaf (head.Label label)) (λ l k e. ap (λ t. label_in (root t)) e)

mutual
  pub value_same : (v w : ValueTree) → plain_value v ≡ plain_value w → v ≡ w
  value_same (Primitive p) (Primitive q) e = ap (λ t. Primitive (primitive_in (root t))) e
  value_same (TupleOf ts) (TupleOf us) e = ap TupleOf (values_same ts us (ap below_root e))
  value_same (RecordOf m ts) (RecordOf n us) e = λ i. RecordOf (place_in (root (e i))) (cases_same ts us (ap below_root e) i)
  value_same (VariantOf m ts) (VariantOf n us) e = λ i. VariantOf (place_in (root (e i))) (cases_same ts us (ap below_root e) i)
  value_same (ListOf t) (ListOf u) e = ap ListOf (value_same t u (ap part_of e))
  value_same (FlagsOf m ls) (FlagsOf n ks) e = λ i. FlagsOf (place_in (root (e i))) (labels_same ls ks (ap below_root e) i)
  value_same (EnumOf m ls) (EnumOf n ks) e = λ i. EnumOf (place_in (root (e i))) (labels_same ls ks (ap below_root e) i)
  value_same (OptionOf t) (OptionOf u) e = ap OptionOf (value_same t u (ap part_of e))
  value_same (ResultOf t d) (ResultOf u f) e = λ i. ResultOf (payload_same t u (ap part_of e) i) (payload_same d f (ap second_of e) i)
  value_same (Own r) (Own s) e = ap (λ t. Own (name_in (root t))) e
  value_same (Borrow r) (Borrow s) e = ap (λ t. Borrow (name_in (root t))) e
  value_same v w e = absurd (let h = ap root e in cc)

  values_same : (ts us : ValueTrees) → plain_values ts ≡ plain_values us → ts ≡ us
  values_same entity.none entity.none e = refl
  values_same entity.none (entity.more u us) e = absurd (let h = ap is_more e in cc)
  values_same (entity.more t ts) entity.none e = absurd (let h = ap is_more e in cc)
  values_same (entity.more t ts) (entity.more u us) e = λ i. entity.more (value_same t u (ap first_of e) i) (values_same ts us (ap behind e) i)

  cases_same : (ts us : Cases) → plain_cases ts ≡ plain_cases us → ts ≡ us
  cases_same no_case no_case e = refl
  cases_same no_case (labelled k u us) e = absurd (let h = ap is_more e in cc)
  cases_same (labelled l t ts) no_case e = absurd (let h = ap is_more e in cc)
  cases_same (labelled l t ts) (labelled k u us) e =
      λ i. labelled (label_in (root (first_of (e i)))) (payload_same t u (ap (λ x. part_of (first_of x)) e) i) (cases_same ts us (ap behind e) i)

  payload_same : (t u : Payload) → plain_payload t ≡ plain_payload u → t ≡ u
  payload_same absent absent e = refl
  payload_same absent (present u) e = apart is_value (plain_value u) (leaf head.Absent) (sym e) (value_root u) refl
  payload_same (present t) absent e = apart is_value (plain_value t) (leaf head.Absent) e (value_root t) refl
  payload_same (present t) (present u) e = ap present (value_same t u e)

result_same : (r s : Option ValueTree) → plain_result r ≡ plain_result s → r ≡ s
result_same None None e = refl
result_same None (Some u) e = apart is_value (plain_value u) (leaf head.Absent) (sym e) (value_root u) refl
result_same (Some t) None e = apart is_value (plain_value t) (leaf head.Absent) e (value_root t) refl
result_same (Some t) (Some u) e = ap Some (value_same t u e)

param_same : (p q : List ℕ × ValueTree) → plain_param p ≡ plain_param q → p ≡ q
param_same p q e = λ i. (label_in (root (e i)), value_same p.1 q.1 (ap part_of e) i)

func_same : (f g : FuncTree) → plain_func f ≡ plain_func g → f ≡ g
func_same f g e =
    let params = all_same plain_param param_same f.params g.params (ap (λ t. behind (below_root t)) e) in
    let result = result_same f.result g.result (ap part_of e) in
    λ i. record { params = params i; result = result i }

-- core modules
core_values_same : (vs ws : List CoreVal) → trees_of (map (λ v. leaf (head.CoreValue v)) vs) ≡ trees_of (map (λ v. leaf (head.CoreValue v)) ws) → vs ≡ ws
core_values_same = all_same (λ v. leaf (head.CoreValue v)) (λ v w e. ap (λ t. core_value_in (root t)) e)

core_same : (c d : CoreShape) → plain_core c ≡ plain_core d → c ≡ d
core_same (core.Func ps rs) (core.Func qs ss) e =
    λ i. core.Func (core_values_same ps qs (ap (λ t. below_root (part_of t)) e) i) (core_values_same rs ss (ap (λ t. below_root (second_of t)) e) i)
core_same (core.Table v l) (core.Table w m) e = λ i. core.Table (core_value_in (root (e i))) (limits_in (root (e i)))
core_same (core.Memory l) (core.Memory m) e = ap (λ t. core.Memory (limits_in (root t))) e
core_same (core.Global v a) (core.Global w b) e = λ i. core.Global (core_value_in (root (e i))) (mark_in (root (e i)))
core_same c d e = absurd (let h = ap root e in cc)

module_import_same : (m n : List ℕ × List ℕ × CoreShape) → plain_import m ≡ plain_import n → m ≡ n
module_import_same m n e =
    λ i. (label_in (root (e i)), label_in (root (part_of (e i))), core_same m.2 n.2 (ap (λ t. part_of (part_of t)) e) i)

module_export_same : (m n : List ℕ × CoreShape) → plain_export m ≡ plain_export n → m ≡ n
module_export_same m n e = λ i. (label_in (root (e i)), core_same m.1 n.1 (ap part_of e) i)

module_same : (m n : ModuleShape) → plain_module m ≡ plain_module n → m ≡ n
module_same m n e =
    let imports = all_same plain_import module_import_same m.imports n.imports (ap (λ t. below_root (part_of t)) e) in
    let exports = all_same plain_export module_export_same m.exports n.exports (ap (λ t. below_root (second_of t)) e) in
    λ i. record { imports = imports i; exports = exports i }

-- types and entities
mutual
  type_same : (s t : TypeShapeTree) → plain_type s ≡ plain_type t → s ≡ t
  type_same (Value v) (Value w) e = ap Value (value_same v w e)
  type_same (Value v) (Resource r) e = apart is_value (plain_value v) (plain_type (Resource r)) e (value_root v) refl
  type_same (Value v) (Func f) e = apart is_value (plain_value v) (plain_func f) e (value_root v) refl
  type_same (Value v) (Instance es) e = apart is_value (plain_value v) (plain_type (Instance es)) e (value_root v) refl
  type_same (Value v) (Component is es) e = apart is_value (plain_value v) (plain_type (Component is es)) e (value_root v) refl
  type_same (Resource r) (Value w) e = apart is_value (plain_value w) (plain_type (Resource r)) (sym e) (value_root w) refl
  type_same (Func f) (Value w) e = apart is_value (plain_value w) (plain_func f) (sym e) (value_root w) refl
  type_same (Instance es) (Value w) e = apart is_value (plain_value w) (plain_type (Instance es)) (sym e) (value_root w) refl
  type_same (Component is es) (Value w) e = apart is_value (plain_value w) (plain_type (Component is es)) (sym e) (value_root w) refl
  type_same (Resource r) (Resource s) e = ap (λ t. Resource (name_in (root t))) e
  type_same (Func f) (Func g) e = ap Func (func_same f g e)
  type_same (Instance es) (Instance fs) e = ap Instance (entries_same es fs (ap below_root e))
  type_same (Component is es) (Component js fs) e =
      λ i. Component (entries_same is js (ap (λ t. below_root (part_of t)) e) i) (entries_same es fs (ap (λ t. below_root (second_of t)) e) i)
  type_same s t e = absurd (let h = ap root e in cc)

  entity_same : (a b : EntityTree) → plain_entity a ≡ plain_entity b → a ≡ b
  entity_same (IsType s) (IsType t) e = ap IsType (type_same s t e)
  entity_same (IsType s) (IsFunc f) e = apart is_type (plain_type s) (plain_entity (IsFunc f)) e (type_root s) refl
  entity_same (IsType s) (IsInstance es) e = apart is_type (plain_type s) (plain_entity (IsInstance es)) e (type_root s) refl
  entity_same (IsType s) (IsComponent is es) e = apart is_type (plain_type s) (plain_entity (IsComponent is es)) e (type_root s) refl
  entity_same (IsType s) (IsModule m) e = apart is_type (plain_type s) (plain_module m) e (type_root s) refl
  entity_same (IsType s) IsOwnModule e = apart is_type (plain_type s) (plain_entity IsOwnModule) e (type_root s) refl
  entity_same (IsFunc f) (IsType t) e = apart is_type (plain_type t) (plain_entity (IsFunc f)) (sym e) (type_root t) refl
  entity_same (IsInstance es) (IsType t) e = apart is_type (plain_type t) (plain_entity (IsInstance es)) (sym e) (type_root t) refl
  entity_same (IsComponent is es) (IsType t) e = apart is_type (plain_type t) (plain_entity (IsComponent is es)) (sym e) (type_root t) refl
  entity_same (IsModule m) (IsType t) e = apart is_type (plain_type t) (plain_module m) (sym e) (type_root t) refl
  entity_same IsOwnModule (IsType t) e = apart is_type (plain_type t) (plain_entity IsOwnModule) (sym e) (type_root t) refl
  entity_same (IsFunc f) (IsFunc g) e = ap IsFunc (func_same f g (ap part_of e))
  entity_same (IsInstance es) (IsInstance fs) e = ap IsInstance (entries_same es fs (ap below_root e))
  entity_same (IsComponent is es) (IsComponent js fs) e =
      λ i. IsComponent (entries_same is js (ap (λ t. below_root (part_of t)) e) i) (entries_same es fs (ap (λ t. below_root (second_of t)) e) i)
  entity_same (IsModule m) (IsModule n) e = ap IsModule (module_same m n e)
  entity_same IsOwnModule IsOwnModule e = refl
  entity_same a b e = absurd (let h = ap root e in cc)

  entries_same : (es fs : Entries) → plain_entries es ≡ plain_entries fs → es ≡ fs
  entries_same no_entry no_entry e = refl
  entries_same no_entry (entry n b q fs) e = absurd (let h = ap is_more e in cc)
  entries_same (entry m a p es) no_entry e = absurd (let h = ap is_more e in cc)
  entries_same (entry m a p es) (entry n b q fs) e =
      λ i. entry (label_in (root (first_of (e i)))) (entity_same a b (ap (λ x. part_of (first_of x)) e) i) (mark_in (root (first_of (e i)))) (entries_same es fs (ap behind e) i)

pub one_entity : (a b : EntityTree) → plain_entity a ≡ plain_entity b → a ≡ b
one_entity = entity_same
