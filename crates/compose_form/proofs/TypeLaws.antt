-- Types that are read into index spaces keep the form.
use Rattle.std.proofs.Common.{◌≡◌, ◌<◌, ℕ, List, [], ◌∷◌, length, map, Option, Some, None, Result, Ok, Err, refl, sym, ap, subst, arith}
use Rattle.std.specs.Prelude.{IfOk, IfSome}
use Rattle.std.specs.List.{AllByRecursion}
use Rattle.std.proofs.lemmas.List.{length-map}
use Rattle.std.proofs.lemmas.List.Elements.{All-from_recursion}
use Rattle.comp_format.specs.CoreTypes as ty
use Rattle.comp_format.specs.declared.core_types.CoreDesc.{CoreDesc}
use Rattle.comp_format.specs.declared.core_types.CoreDesc.TheVariants as description
use Rattle.comp_format.specs.declared.types.DefinedType.{DefinedType}
use Rattle.comp_format.specs.declared.types.DefinedType.TheVariants as defined
use Rattle.comp_format.specs.declared.types.FuncType.{FuncType}
use Rattle.comp_format.specs.declared.types.ValType.{ValType}
use Rattle.comp_format.specs.declared.types.ValType.TheVariants as value
use Rattle.comp_format.specs.Forms.{AreLabels, AreModuleDecls, IsCore, IsCoreDesc, IsDefined, IsFunc as IsFuncType, IsModuleDecl}
use Rattle.comp_format.specs.Types.{label_of}
use Rattle.comp_entity.specs.declared.module.CoreShape.{CoreShape}
use Rattle.comp_entity.specs.Bounds.{ShapeFault, Bounds}
use Rattle.comp_entity.specs.Entity.{ValueTree, ValueTrees, Cases, Value, Resource, Func, Instance, Component, IsType, IsFunc, IsInstance, IsComponent, IsModule, IsOwnModule}
use Rattle.comp_scope.specs.CoreScopes.{ModuleScope, no_module_scope, module_in, as_core_func, core_item, outer_core, core_type_of, module_of, with_module_decl}
use Rattle.comp_scope.specs.Spaces.{KnownCoreType, OfItem, OfModules, Unknown, Standing, Spaces, at_index}
use Rattle.comp_scope.specs.Values.{as_value, part_of, payload_of, resource_of, parts_of, fields_of, cases_of, value_of, params_of, result_of, func_of}
use Rattle.compose_writing.specs.Conditions.{AreFields, AreLabelled, HasPart, KeepsCases, KeepsCore, KeepsFunc, KeepsPayload, KeepsValue, KeepsValues, labels_of}
use Rattle.compose_form.proofs.StandLaws.{CoreKeeps, SpacesKeep, StandingKeeps, each_more, index_ok, kept_ok, then_ok}

-- ---- types of values

value_there : (st : Standing) → StandingKeeps st → IfOk (as_value st) (λ x. KeepsValue x.0)
value_there (IsType (Value t), named) h = h
value_there (IsType (Resource r), named) h = tt
value_there (IsType (Func f), named) h = tt
value_there (IsType (Instance es), named) h = tt
value_there (IsType (Component is es), named) h = tt
value_there (IsFunc f, named) h = tt
value_there (IsInstance es, named) h = tt
value_there (IsComponent is es, named) h = tt
value_there (IsModule m, named) h = tt
value_there (IsOwnModule, named) h = tt

abbrev Anything : {X : Type 0} → X → Type 0
Anything x = Unit {0}

anything : {X : Type 0} (r : Result X ShapeFault) → IfOk r Anything
anything (Ok x) = tt
anything (Err e) = tt

abbrev HasAsMany : List ValType → ValueTrees → Type 0
HasAsMany [] ts = Unit {0}
HasAsMany (v ∷ vs) ts = HasPart ts

module _ (s : Spaces) (h : SpacesKeep s) where
  part_keeps : (t : ValType) → IfOk (part_of s t) (λ x. KeepsValue x.0)
  unfolding part_of
  part_keeps (value.Primitive p) = tt
  part_keeps (value.Index i) = then_ok StandingKeeps _ (at_index s.types i) as_value (index_ok StandingKeeps s.types i h.types) value_there

  payload_keeps : (p : Option ValType) → IfOk (payload_of s p) (λ x. KeepsPayload x.0)
  unfolding payload_of
  payload_keeps None = tt
  payload_keeps (Some t) = then_ok (λ x. KeepsValue x.0) _ (part_of s t) _ (part_keeps t) (λ x k. k)

  parts_keep : (ts : List ValType) → IfOk (parts_of s ts) (λ x. HasAsMany ts x.0 × KeepsValues x.0)
  unfolding parts_of
  parts_keep [] = (tt, tt)
  parts_keep (t ∷ ts) = then_ok (λ x. KeepsValue x.0) _ (part_of s t) _ (part_keeps t) (λ v k. then_ok (λ x. HasAsMany ts x.0 × KeepsValues x.0) _ (parts_of s ts) _ (parts_keep ts) (λ vs l. (tt, (k, l.1))))

  fields_keep : (fs : List (List ℕ × ValType)) → IfOk (fields_of s fs) (λ x. (labels_of x.0 ≡ map label_of fs) × AreFields x.0 × KeepsCases x.0)
  unfolding fields_of
  fields_keep [] = (refl, tt, tt)
  fields_keep (f ∷ fs) = then_ok (λ x. KeepsValue x.0) _ (part_of s f.1) _ (part_keeps f.1) (λ v k.
      then_ok (λ x. (labels_of x.0 ≡ map label_of fs) × AreFields x.0 × KeepsCases x.0) _ (fields_of s fs) _ (fields_keep fs) (λ vs l. (ap (λ ls. f.0 ∷ ls) l.0, (tt, l.1), (k, l.2))))

  cases_keep : (cs : List (List ℕ × Option ValType)) → IfOk (cases_of s cs) (λ x. (labels_of x.0 ≡ map label_of cs) × KeepsCases x.0)
  unfolding cases_of
  cases_keep [] = (refl, tt)
  cases_keep (c ∷ cs) = then_ok (λ x. KeepsPayload x.0) _ (payload_of s c.1) _ (payload_keeps c.1) (λ p k.
      then_ok (λ x. (labels_of x.0 ≡ map label_of cs) × KeepsCases x.0) _ (cases_of s cs) _ (cases_keep cs) (λ ps l. (ap (λ ls. c.0 ∷ ls) l.0, (k, l.1))))

  are_labelled : {X : Type 0} (xs : List (List ℕ × X)) (cases : Cases) → labels_of cases ≡ map label_of xs → 0 < length xs → AreLabels (map label_of xs) → AreLabelled cases
  are_labelled xs cases e some labels = subst (λ (ls : List (List ℕ)). (0 < length ls) × AreLabels ls) (sym e) (subst (λ n. 0 < n) (sym (length-map xs label_of)) some, labels)

  has_part : (ts : List ValType) (vs : ValueTrees) → 0 < length ts → HasAsMany ts vs → HasPart vs
  has_part [] vs lt k = absurd (omega (arith, lt))
  has_part (t ∷ ts) vs lt k = k

  pub value_keeps : (d : DefinedType) → IsDefined d → IfOk (value_of s d) (λ x. KeepsValue x.0)
  unfolding value_of
  value_keeps (defined.Primitive p) f = tt
  value_keeps (defined.RecordOf fields) f = then_ok (λ x. (labels_of x.0 ≡ map label_of fields) × AreFields x.0 × KeepsCases x.0) _ (fields_of s fields) _ (fields_keep fields) (λ x k. (are_labelled fields x.0 k.0 f.0 f.1, k.1, k.2))
  value_keeps (defined.VariantOf cases) f = then_ok (λ x. (labels_of x.0 ≡ map label_of cases) × KeepsCases x.0) _ (cases_of s cases) _ (cases_keep cases) (λ x k. (are_labelled cases x.0 k.0 f.0 f.1, k.1))
  value_keeps (defined.ListOf t) f = then_ok (λ x. KeepsValue x.0) _ (part_of s t) _ (part_keeps t) (λ x k. k)
  value_keeps (defined.TupleOf parts) f = then_ok (λ x. HasAsMany parts x.0 × KeepsValues x.0) _ (parts_of s parts) _ (parts_keep parts) (λ x k. (has_part parts x.0 f k.0, k.1))
  value_keeps (defined.FlagsOf labels) f = f
  value_keeps (defined.EnumOf labels) f = f
  value_keeps (defined.OptionOf t) f = then_ok (λ x. KeepsValue x.0) _ (part_of s t) _ (part_keeps t) (λ x k. k)
  value_keeps (defined.ResultOf ok err) f = then_ok (λ x. KeepsPayload x.0) _ (payload_of s ok) _ (payload_keeps ok) (λ x k. then_ok (λ x. KeepsPayload x.0) _ (payload_of s err) _ (payload_keeps err) (λ y l. (k, l)))
  value_keeps (defined.Own i) f = then_ok Anything _ (resource_of s i) _ (anything (resource_of s i)) (λ r k. tt)
  value_keeps (defined.Borrow i) f = then_ok Anything _ (resource_of s i) _ (anything (resource_of s i)) (λ r k. tt)

  -- ---- types of functions

  params_keep : (ps : List (List ℕ × ValType)) → IfOk (params_of s ps) (λ x. (map (λ (p : List ℕ × ValueTree). p.0) x.0 ≡ map label_of ps) × AllByRecursion (λ (p : List ℕ × ValueTree). KeepsValue p.1) x.0)
  unfolding params_of
  params_keep [] = (refl, tt)
  params_keep (p ∷ ps) = then_ok (λ x. KeepsValue x.0) _ (part_of s p.1) _ (part_keeps p.1) (λ v k.
      then_ok (λ x. (map (λ (p : List ℕ × ValueTree). p.0) x.0 ≡ map label_of ps) × AllByRecursion (λ (p : List ℕ × ValueTree). KeepsValue p.1) x.0) _ (params_of s ps) _ (params_keep ps) (λ vs l. (ap (λ ls. p.0 ∷ ls) l.0, (k, l.1))))

  result_keeps : (r : Option ValType) → IfOk (result_of s r) (λ x. IfSome x.0 KeepsValue)
  unfolding result_of
  result_keeps None = tt
  result_keeps (Some t) = then_ok (λ x. KeepsValue x.0) _ (part_of s t) _ (part_keeps t) (λ x k. k)

  pub func_keeps : (f : FuncType) → IsFuncType f → IfOk (func_of s f) (λ x. KeepsFunc x.0)
  unfolding func_of
  func_keeps f labels = then_ok (λ x. (map (λ (p : List ℕ × ValueTree). p.0) x.0 ≡ map label_of f.params) × AllByRecursion (λ (p : List ℕ × ValueTree). KeepsValue p.1) x.0) _ (params_of s f.params) _ (params_keep f.params) (λ ps k.
      then_ok (λ x. IfSome x.0 KeepsValue) _ (result_of s f.result) _ (result_keeps f.result) (λ r l. (subst AreLabels (sym k.0) labels, All-from_recursion (λ (p : List ℕ × ValueTree). KeepsValue p.1) ps.0 k.1, l)))

-- ---- types of core modules

record ModuleKeeps (m : ModuleScope) : Type 0 where
  types : AllByRecursion CoreKeeps m.types
  imports : AllByRecursion (λ (i : List ℕ × List ℕ × CoreShape). KeepsCore i.2) m.imports
  exports : AllByRecursion (λ (e : List ℕ × CoreShape). KeepsCore e.1) m.exports

core_func_there : (t : KnownCoreType) → CoreKeeps t → IfOk (as_core_func t) KeepsCore
core_func_there (OfItem t) h = h
core_func_there (OfModules m) h = tt
core_func_there Unknown h = tt

item_keeps : (types : List KnownCoreType) (d : CoreDesc) → AllByRecursion CoreKeeps types → IsCoreDesc d → IfOk (core_item types d) KeepsCore
unfolding core_item
item_keeps types (description.Func i) h f = then_ok CoreKeeps KeepsCore (at_index types i) as_core_func (index_ok CoreKeeps types i h) core_func_there
item_keeps types (description.Table element limits) h f = f
item_keeps types (description.Memory limits) h f = tt
item_keeps types (description.Global v is_mutable) h f = tt

abbrev AllCore : List KnownCoreType → Type 0
AllCore types = AllByRecursion CoreKeeps types

pub outer_core_keeps : (scopes : List (List KnownCoreType)) (count index : ℕ) → AllByRecursion (λ (types : List KnownCoreType). AllByRecursion CoreKeeps types) scopes → IfOk (outer_core scopes count index) CoreKeeps
outer_core_keeps scopes count index h = then_ok AllCore CoreKeeps (at_index scopes count) _ (index_ok AllCore scopes count h) (λ types k. index_ok CoreKeeps types index k)

module _ (b : Bounds) where
  mutual
    unfolding core_type_of module_of with_module_decl

    pub core_keeps : (scopes : List (List KnownCoreType)) (t : ty.CoreTree) → AllByRecursion (λ (types : List KnownCoreType). AllByRecursion CoreKeeps types) scopes → IsCore t → IfOk (core_type_of b scopes t) CoreKeeps
    core_keeps scopes (ty.Func params results) h f = tt
    core_keeps scopes (ty.Module ds) h f = then_ok ModuleKeeps CoreKeeps (module_of b scopes no_module_scope ds) _ (module_keeps scopes no_module_scope ds h f (record { types = tt; imports = tt; exports = tt }))
        (λ m k. kept_ok CoreKeeps b (IsModule (module_in m)) (OfModules (module_in m)) (record {
          imports = All-from_recursion (λ (i : List ℕ × List ℕ × CoreShape). KeepsCore i.2) m.imports k.imports;
          exports = All-from_recursion (λ (e : List ℕ × CoreShape). KeepsCore e.1) m.exports k.exports;
        }))

    module_keeps : (scopes : List (List KnownCoreType)) (m : ModuleScope) (ds : ty.ModuleDecls) → AllByRecursion (λ (types : List KnownCoreType). AllByRecursion CoreKeeps types) scopes → AreModuleDecls ds → ModuleKeeps m → IfOk (module_of b scopes m ds) ModuleKeeps
    module_keeps scopes m ty.none h f k = k
    module_keeps scopes m (ty.more d ds) h f k = then_ok ModuleKeeps ModuleKeeps (with_module_decl b scopes m d) _ (decl_keeps scopes m d h f.0 k) (λ next l. module_keeps scopes next ds h f.1 l)

    decl_keeps : (scopes : List (List KnownCoreType)) (m : ModuleScope) (d : ty.ModuleDeclTree) → AllByRecursion (λ (types : List KnownCoreType). AllByRecursion CoreKeeps types) scopes → IsModuleDecl d → ModuleKeeps m → IfOk (with_module_decl b scopes m d) ModuleKeeps
    decl_keeps scopes m (ty.Import from name item) h f k = then_ok KeepsCore ModuleKeeps (core_item m.types item) _ (item_keeps m.types item k.types f)
        (λ t l. record { types = k.types; imports = each_more (λ (i : List ℕ × List ℕ × CoreShape). KeepsCore i.2) m.imports (from, name, t) k.imports l; exports = k.exports })
    decl_keeps scopes m (ty.CoreTy t) h f k = then_ok CoreKeeps ModuleKeeps (core_type_of b (m.types ∷ scopes) t) _ (core_keeps (m.types ∷ scopes) t (k.types, h) f)
        (λ known l. record { types = each_more CoreKeeps m.types known k.types l; imports = k.imports; exports = k.exports })
    decl_keeps scopes m (ty.OuterAlias count index) h f k = then_ok CoreKeeps ModuleKeeps (outer_core (m.types ∷ scopes) count index) _ (outer_core_keeps (m.types ∷ scopes) count index (k.types, h))
        (λ known l. record { types = each_more CoreKeeps m.types known k.types l; imports = k.imports; exports = k.exports })
    decl_keeps scopes m (ty.Export name item) h f k = then_ok KeepsCore ModuleKeeps (core_item m.types item) _ (item_keeps m.types item k.types f)
        (λ t l. record { types = k.types; imports = k.imports; exports = each_more (λ (e : List ℕ × CoreShape). KeepsCore e.1) m.exports (name, t) k.exports l })
