-- Types of values and of functions can lie in memory.
use Rattle.std.proofs.Common.{ℕ, List, [], ◌∷◌, Result, Ok, Err, Option, Some, None}
use Rattle.std.specs.Prelude.{IfOk}
use Rattle.std.specs.List.{AllByRecursion}
use Rattle.comp_format.specs.declared.types.ValType.{ValType}
use Rattle.comp_format.specs.declared.types.ValType.TheVariants as value
use Rattle.comp_format.specs.declared.types.DefinedType.{DefinedType}
use Rattle.comp_format.specs.declared.types.DefinedType.TheVariants as defined
use Rattle.comp_format.specs.declared.types.FuncType.{FuncType}
use Rattle.comp_entity.specs.Entity as entity
use Rattle.comp_entity.specs.Entity.{EntityTree, IsType, IsFunc, IsInstance, IsComponent, IsModule, IsOwnModule}
use Rattle.comp_entity.specs.Bounds.{ShapeFault}
use Rattle.comp_view.specs.Fields.{HasFields, AllHaveFields, AreFields, CasesHaveFields, HeldHasFields, ResultHasFields, FuncHasFields}
use Rattle.comp_scope.specs.Spaces.{Spaces, Standing, at_index}
use Rattle.comp_scope.specs.Values.{as_value, part_of, payload_of, resource_of, parts_of, fields_of, cases_of, value_of, params_of, result_of, func_of}
use Rattle.comp_parts.proofs.WholeLaws.{StandsWhole, then_ok, at_ok}

pub any_ok : {X : Type 0} (r : Result X ShapeFault) → IfOk r (λ x. Unit {0})
any_ok (Ok x) = tt
any_ok (Err fault) = tt

as_value_ok : (e : Standing) → StandsWhole e → IfOk (as_value e) (λ v. HasFields v.0)
as_value_ok (IsType (entity.Value t), named) h = h.0
as_value_ok (IsType (entity.Resource r), named) h = tt
as_value_ok (IsType (entity.Func f), named) h = tt
as_value_ok (IsType (entity.Instance es), named) h = tt
as_value_ok (IsType (entity.Component is es), named) h = tt
as_value_ok (IsFunc f, named) h = tt
as_value_ok (IsInstance es, named) h = tt
as_value_ok (IsComponent is es, named) h = tt
as_value_ok (IsModule m, named) h = tt
as_value_ok (IsOwnModule, named) h = tt

module _ (s : Spaces) (types : AllByRecursion StandsWhole s.types) where
  part_ok : (t : ValType) → IfOk (part_of s t) (λ v. HasFields v.0)
  unfolding part_of
  part_ok (value.Primitive p) = tt
  part_ok (value.Index i) = then_ok _ _ (at_index s.types i) as_value (at_ok StandsWhole s.types i types) as_value_ok

  payload_ok : (t : Option ValType) → IfOk (payload_of s t) (λ p. HeldHasFields p.0)
  unfolding payload_of
  payload_ok None = tt
  payload_ok (Some t) = then_ok _ _ (part_of s t) _ (part_ok t) (λ v h. h)

  parts_ok : (ts : List ValType) → IfOk (parts_of s ts) (λ vs. AllHaveFields vs.0)
  unfolding parts_of
  parts_ok [] = tt
  parts_ok (t ∷ ts) = then_ok _ _ (part_of s t) _ (part_ok t) (λ v h. then_ok _ _ (parts_of s ts) _ (parts_ok ts) (λ vs hs. (h, hs)))

  fields_ok : (fs : List (List ℕ × ValType)) → IfOk (fields_of s fs) (λ vs. AreFields vs.0)
  unfolding fields_of
  fields_ok [] = tt
  fields_ok (f ∷ fs) = then_ok _ _ (part_of s f.1) _ (part_ok f.1) (λ v h. then_ok _ _ (fields_of s fs) _ (fields_ok fs) (λ vs hs. (h, hs)))

  cases_ok : (cs : List (List ℕ × Option ValType)) → IfOk (cases_of s cs) (λ ps. CasesHaveFields ps.0)
  unfolding cases_of
  cases_ok [] = tt
  cases_ok (c ∷ cs) = then_ok _ _ (payload_of s c.1) _ (payload_ok c.1) (λ p h. then_ok _ _ (cases_of s cs) _ (cases_ok cs) (λ ps hs. (h, hs)))

  pub value_ok : (d : DefinedType) → IfOk (value_of s d) (λ v. HasFields v.0)
  unfolding value_of
  value_ok (defined.Primitive p) = tt
  value_ok (defined.RecordOf fields) = then_ok _ _ (fields_of s fields) _ (fields_ok fields) (λ x h. h)
  value_ok (defined.VariantOf cases) = then_ok _ _ (cases_of s cases) _ (cases_ok cases) (λ x h. h)
  value_ok (defined.ListOf t) = then_ok _ _ (part_of s t) _ (part_ok t) (λ x h. h)
  value_ok (defined.TupleOf parts) = then_ok _ _ (parts_of s parts) _ (parts_ok parts) (λ x h. h)
  value_ok (defined.FlagsOf labels) = tt
  value_ok (defined.EnumOf labels) = tt
  value_ok (defined.OptionOf t) = then_ok _ _ (part_of s t) _ (part_ok t) (λ x h. h)
  value_ok (defined.ResultOf ok err) = then_ok _ _ (payload_of s ok) _ (payload_ok ok) (λ x h. then_ok _ _ (payload_of s err) _ (payload_ok err) (λ y k. (h, k)))
  value_ok (defined.Own i) = then_ok _ _ (resource_of s i) _ (any_ok (resource_of s i)) (λ r h. tt)
  value_ok (defined.Borrow i) = then_ok _ _ (resource_of s i) _ (any_ok (resource_of s i)) (λ r h. tt)

  params_ok : (ps : List (List ℕ × ValType)) → IfOk (params_of s ps) (λ vs. AllByRecursion (λ p. HasFields p.1) vs.0)
  unfolding params_of
  params_ok [] = tt
  params_ok (p ∷ ps) = then_ok _ _ (part_of s p.1) _ (part_ok p.1) (λ v h. then_ok _ _ (params_of s ps) _ (params_ok ps) (λ vs hs. (h, hs)))

  result_ok : (t : Option ValType) → IfOk (result_of s t) (λ r. ResultHasFields r.0)
  unfolding result_of
  result_ok None = tt
  result_ok (Some t) = then_ok _ _ (part_of s t) _ (part_ok t) (λ v h. h)

  pub func_ok : (f : FuncType) → IfOk (func_of s f) (λ t. FuncHasFields t.0)
  unfolding func_of
  func_ok f = then_ok _ _ (params_of s f.params) _ (params_ok f.params) (λ ps hs. then_ok _ _ (result_of s f.result) _ (result_ok f.result) (λ r h. (hs, h)))
