-- Laws of equality of entities: they are equal exactly where they have one tree of heads without the places that named
-- types and without naming bits.
use Rattle.std.specs.Prelude.{◌≡◌, ◌↔◌, ℕ, suc, Bool, true, false, ◌&&◌, ◌==◌, List, [], ◌∷◌, map, Option, Some, None, option_map, refl}
use Rattle.std.specs.Cmp.Lexicographic.{pointwise}
use Rattle.std.specs.Option.{option_eq}
use Rattle.std.specs.Str.{bytes_eq}
use Rattle.std.proofs.Common.{ap, sym, ◌∙◌}
use Rattle.std.proofs.lemmas.Bool.{eqb-true, eq-eqb}
use Rattle.comp_format.specs.declared.core_types.CoreVal.{CoreVal}
use Rattle.comp_format.specs.declared.core_types.CoreVal.TheVariants as core_value
use Rattle.comp_format.specs.declared.core_types.Limits.{Limits}
use Rattle.comp_format.specs.CoreTypes.{core_value_code, core_value_of}
use Rattle.comp_entity.specs.declared.module.CoreShape.{CoreShape}
use Rattle.comp_entity.specs.declared.module.CoreShape.TheVariants as core
use Rattle.comp_entity.specs.declared.module.ModuleShape.{ModuleShape}
use Rattle.comp_entity.specs.Entity.{ValueTree, FuncTree, TypeShapeTree, Value, Resource, Func, Instance, Component, EntityTree, IsType, IsFunc, IsInstance, IsComponent, IsModule, IsOwnModule, Entries, no_entry, entry}
use Rattle.comp_entity.specs.Names.{without_places, bare, value_by, func_by, type_by, entity_by, entries_by}
use Rattle.comp_entity.specs.Fits.{same_name, values_equal, params_equal, funcs_equal, limits_equal, core_values_equal, same_truth, core_equal, core_imports_equal, core_exports_equal, modules_equal, types_equal, entities_equal, entries_equal, equal}
use Rattle.comp_entity.specs.FitLaws.{bare_equal}
use Rattle.comp_table.specs.Plain.{plain_entity}
use Rattle.comp_table.specs.Shown.{IsShownType, IsShown, AreShown}
use Rattle.comp_table.proofs.EqualLaws.{both, both_hold, name_same, name_itself, label_same, label_itself, value_told, value_itself}
use Rattle.comp_table.proofs.PlainLaws.{one_entity}

-- lists
module _ {X : Type 0} (f : X → X → Bool) where
  all_same : ((x y : X) → f x y ≡ true → x ≡ y) → (xs ys : List X) → pointwise f xs ys ≡ true → xs ≡ ys
  all_same one [] [] e = refl
  all_same one [] (y ∷ ys) e = absurd cc
  all_same one (x ∷ xs) [] e = absurd cc
  all_same one (x ∷ xs) (y ∷ ys) e =
      let h = both (f x y) (pointwise f xs ys) e in λ i. one x y h.0 i ∷ all_same one xs ys h.1 i

  all_themselves : ((x : X) → f x x ≡ true) → (xs : List X) → pointwise f xs xs ≡ true
  all_themselves one [] = refl
  all_themselves one (x ∷ xs) = both_hold (f x x) (pointwise f xs xs) (one x) (all_themselves one xs)

-- core modules
or_i32 : Option CoreVal → CoreVal
or_i32 (Some v) = v
or_i32 None = core_value.V7f

code_again : (v : CoreVal) → core_value_of (core_value_code v) ≡ Some v
code_again core_value.V7f = refl
code_again core_value.V7e = refl
code_again core_value.V7d = refl
code_again core_value.V7c = refl
code_again core_value.V7b = refl
code_again core_value.V70 = refl
code_again core_value.V6f = refl

core_value_same : (v w : CoreVal) → core_values_equal v w ≡ true → v ≡ w
unfolding or_i32
core_value_same v w e = ap or_i32 (sym (code_again v) ∙ ap core_value_of (eqb-true (core_value_code v) (core_value_code w) e) ∙ code_again w)

core_value_itself : (v : CoreVal) → core_values_equal v v ≡ true
core_value_itself v = eq-eqb (core_value_code v) (core_value_code v) refl

most_same : (m n : Option ℕ) → option_eq (λ m n. m == n) m n ≡ true → m ≡ n
most_same None None e = refl
most_same None (Some n) e = absurd cc
most_same (Some m) None e = absurd cc
most_same (Some m) (Some n) e = ap Some (eqb-true m n e)

most_itself : (m : Option ℕ) → option_eq (λ m n. m == n) m m ≡ true
most_itself None = refl
most_itself (Some m) = eq-eqb m m refl

limits_same : (a b : Limits) → limits_equal a b ≡ true → a ≡ b
limits_same a b e =
    let h = both (a.min == b.min) (option_eq (λ m n. m == n) a.max b.max) e in
    let min = eqb-true a.min b.min h.0 in
    let max = most_same a.max b.max h.1 in λ i. record { min = min i; max = max i }

limits_itself : (a : Limits) → limits_equal a a ≡ true
limits_itself a = both_hold (a.min == a.min) (option_eq (λ m n. m == n) a.max a.max) (eq-eqb a.min a.min refl) (most_itself a.max)

truth_same : (a b : Bool) → same_truth a b ≡ true → a ≡ b
truth_same true true e = refl
truth_same true false e = absurd cc
truth_same false true e = absurd cc
truth_same false false e = refl

truth_itself : (a : Bool) → same_truth a a ≡ true
truth_itself true = refl
truth_itself false = refl

core_same : (a b : CoreShape) → core_equal a b ≡ true → a ≡ b
core_same (core.Func ps rs) (core.Func qs ss) e =
    let h = both (pointwise core_values_equal ps qs) (pointwise core_values_equal rs ss) e in
    λ i. core.Func (all_same core_values_equal core_value_same ps qs h.0 i) (all_same core_values_equal core_value_same rs ss h.1 i)
core_same (core.Table v l) (core.Table w m) e =
    let h = both (core_values_equal v w) (limits_equal l m) e in λ i. core.Table (core_value_same v w h.0 i) (limits_same l m h.1 i)
core_same (core.Memory l) (core.Memory m) e = ap core.Memory (limits_same l m e)
core_same (core.Global v a) (core.Global w b) e =
    let h = both (core_values_equal v w) (same_truth a b) e in λ i. core.Global (core_value_same v w h.0 i) (truth_same a b h.1 i)
core_same a b e = absurd cc

core_itself : (a : CoreShape) → core_equal a a ≡ true
core_itself (core.Func ps rs) = both_hold (pointwise core_values_equal ps ps) (pointwise core_values_equal rs rs) (all_themselves core_values_equal core_value_itself ps) (all_themselves core_values_equal core_value_itself rs)
core_itself (core.Table v l) = both_hold (core_values_equal v v) (limits_equal l l) (core_value_itself v) (limits_itself l)
core_itself (core.Memory l) = limits_itself l
core_itself (core.Global v a) = both_hold (core_values_equal v v) (same_truth a a) (core_value_itself v) (truth_itself a)

import_same : (a b : List ℕ × List ℕ × CoreShape) → core_imports_equal a b ≡ true → a ≡ b
import_same a b e =
    let h = both (bytes_eq a.0 b.0 && bytes_eq a.1 b.1) (core_equal a.2 b.2) e in
    let g = both (bytes_eq a.0 b.0) (bytes_eq a.1 b.1) h.0 in
    λ i. (label_same a.0 b.0 g.0 i, label_same a.1 b.1 g.1 i, core_same a.2 b.2 h.1 i)

import_itself : (a : List ℕ × List ℕ × CoreShape) → core_imports_equal a a ≡ true
import_itself a =
    both_hold (bytes_eq a.0 a.0 && bytes_eq a.1 a.1) (core_equal a.2 a.2)
    (both_hold (bytes_eq a.0 a.0) (bytes_eq a.1 a.1) (label_itself a.0) (label_itself a.1)) (core_itself a.2)

export_same : (a b : List ℕ × CoreShape) → core_exports_equal a b ≡ true → a ≡ b
export_same a b e =
    let h = both (bytes_eq a.0 b.0) (core_equal a.1 b.1) e in λ i. (label_same a.0 b.0 h.0 i, core_same a.1 b.1 h.1 i)

export_itself : (a : List ℕ × CoreShape) → core_exports_equal a a ≡ true
export_itself a = both_hold (bytes_eq a.0 a.0) (core_equal a.1 a.1) (label_itself a.0) (core_itself a.1)

module_same : (m n : ModuleShape) → modules_equal m n ≡ true → m ≡ n
module_same m n e =
    let h = both (pointwise core_imports_equal m.imports n.imports) (pointwise core_exports_equal m.exports n.exports) e in
    let imports = all_same core_imports_equal import_same m.imports n.imports h.0 in
    let exports = all_same core_exports_equal export_same m.exports n.exports h.1 in
    λ i. record { imports = imports i; exports = exports i }

module_itself : (m : ModuleShape) → modules_equal m m ≡ true
module_itself m =
    both_hold (pointwise core_imports_equal m.imports m.imports) (pointwise core_exports_equal m.exports m.exports)
    (all_themselves core_imports_equal import_itself m.imports) (all_themselves core_exports_equal export_itself m.exports)

-- functions
abbrev param_by : ℕ → List ℕ × ValueTree → List ℕ × ValueTree
param_by d p = (p.0, value_by without_places d p.1)

params_told : (d : ℕ) (ps qs : List (List ℕ × ValueTree)) → pointwise (params_equal same_name) ps qs ≡ true → map (param_by d) ps ≡ map (param_by d) qs
params_told d [] [] e = refl
params_told d [] (q ∷ qs) e = absurd cc
params_told d (p ∷ ps) [] e = absurd cc
params_told d (p ∷ ps) (q ∷ qs) e =
    let h = both (params_equal same_name p q) (pointwise (params_equal same_name) ps qs) e in
    let g = both (bytes_eq p.0 q.0) (values_equal same_name p.1 q.1) h.0 in
    λ i. (label_same p.0 q.0 g.0 i, value_told d p.1 q.1 g.1 i) ∷ params_told d ps qs h.1 i

result_told : (d : ℕ) (r s : Option ValueTree) → option_eq (values_equal same_name) r s ≡ true → option_map (value_by without_places d) r ≡ option_map (value_by without_places d) s
result_told d None None e = refl
result_told d None (Some s) e = absurd cc
result_told d (Some r) None e = absurd cc
result_told d (Some r) (Some s) e = ap Some (value_told d r s e)

func_told : (d : ℕ) (f g : FuncTree) → funcs_equal same_name f g ≡ true → func_by without_places d f ≡ func_by without_places d g
func_told d f g e =
    let h = both (pointwise (params_equal same_name) f.params g.params) (option_eq (values_equal same_name) f.result g.result) e in
    let params = params_told d f.params g.params h.0 in
    let result = result_told d f.result g.result h.1 in λ i. record { params = params i; result = result i }

param_itself : (p : List ℕ × ValueTree) → params_equal same_name p p ≡ true
param_itself p = both_hold (bytes_eq p.0 p.0) (values_equal same_name p.1 p.1) (label_itself p.0) (value_itself p.1)

result_itself : (r : Option ValueTree) → option_eq (values_equal same_name) r r ≡ true
result_itself None = refl
result_itself (Some r) = value_itself r

func_itself : (f : FuncTree) → funcs_equal same_name f f ≡ true
func_itself f =
    both_hold (pointwise (params_equal same_name) f.params f.params) (option_eq (values_equal same_name) f.result f.result)
    (all_themselves (params_equal same_name) param_itself f.params) (result_itself f.result)

-- types and entities
mutual
  type_told : (d : ℕ) (t u : TypeShapeTree) → types_equal same_name t u ≡ true → type_by without_places d t ≡ type_by without_places d u
  type_told d (Value t) (Value u) e = ap Value (value_told d t u e)
  type_told d (Resource r) (Resource s) e = ap Resource (name_same r s e)
  type_told d (Func f) (Func g) e = ap Func (func_told d f g e)
  type_told d (Instance es) (Instance fs) e = ap Instance (entries_told (suc d) es fs e)
  type_told d (Component is es) (Component js fs) e =
      let h = both (entries_equal same_name is js) (entries_equal same_name es fs) e in
      λ i. Component (entries_told (suc (suc d)) is js h.0 i) (entries_told (suc (suc d)) es fs h.1 i)
  type_told d t u e = absurd cc

  entity_told : (d : ℕ) (a b : EntityTree) → entities_equal same_name a b ≡ true → entity_by without_places d a ≡ entity_by without_places d b
  entity_told d (IsType t) (IsType u) e = ap IsType (type_told d t u e)
  entity_told d (IsFunc f) (IsFunc g) e = ap IsFunc (func_told d f g e)
  entity_told d (IsInstance es) (IsInstance fs) e = ap IsInstance (entries_told d es fs e)
  entity_told d (IsComponent is es) (IsComponent js fs) e =
      let h = both (entries_equal same_name is js) (entries_equal same_name es fs) e in
      λ i. IsComponent (entries_told (suc (suc d)) is js h.0 i) (entries_told (suc (suc d)) es fs h.1 i)
  entity_told d (IsModule m) (IsModule n) e = ap IsModule (module_same m n e)
  entity_told d a b e = absurd cc

  entries_told : (d : ℕ) (es fs : Entries) → entries_equal same_name es fs ≡ true → entries_by without_places d es ≡ entries_by without_places d fs
  entries_told d no_entry no_entry e = refl
  entries_told d no_entry (entry n b q fs) e = absurd cc
  entries_told d (entry m a p es) no_entry e = absurd cc
  entries_told d (entry m a p es) (entry n b q fs) e =
      let h = both (bytes_eq m n && entities_equal same_name a b) (entries_equal same_name es fs) e in
      let g = both (bytes_eq m n) (entities_equal same_name a b) h.0 in
      λ i. entry (label_same m n g.0 i) (entity_told d a b g.1 i) true (entries_told d es fs h.1 i)

mutual
  type_itself : (t : TypeShapeTree) → IsShownType t → types_equal same_name t t ≡ true
  type_itself (Value t) s = value_itself t
  type_itself (Resource r) s = name_itself r
  type_itself (Func f) s = func_itself f
  type_itself (Instance es) s = entries_themselves es s
  type_itself (Component is es) s = both_hold (entries_equal same_name is is) (entries_equal same_name es es) (entries_themselves is s.0) (entries_themselves es s.1)

  entity_itself : (a : EntityTree) → IsShown a → entities_equal same_name a a ≡ true
  entity_itself (IsType t) s = type_itself t s
  entity_itself (IsFunc f) s = func_itself f
  entity_itself (IsInstance es) s = entries_themselves es s
  entity_itself (IsComponent is es) s = both_hold (entries_equal same_name is is) (entries_equal same_name es es) (entries_themselves is s.0) (entries_themselves es s.1)
  entity_itself (IsModule m) s = module_itself m
  entity_itself IsOwnModule s = absurd s

  entries_themselves : (es : Entries) → AreShown es → entries_equal same_name es es ≡ true
  entries_themselves no_entry s = refl
  entries_themselves (entry n a p es) s =
      both_hold (bytes_eq n n && entities_equal same_name a a) (entries_equal same_name es es)
      (both_hold (bytes_eq n n) (entities_equal same_name a a) (label_itself n) (entity_itself a s.0)) (entries_themselves es s.1)

pub equal_by_tree : (a b : EntityTree) → IsShown b → (equal a b ≡ true) ↔ (plain_entity (bare a) ≡ plain_entity (bare b))
equal_by_tree a b s = (
  λ e. ap plain_entity (entity_told 0 a b e),
  λ e.
      let same = one_entity (bare a) (bare b) e in
      sym (bare_equal same_name a b) ∙ ap (λ x. entities_equal same_name x (bare b)) same ∙ bare_equal same_name b b ∙ entity_itself b s,
)
