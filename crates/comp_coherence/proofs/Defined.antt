-- Types of values and of functions keep one name for one type where all that stands in the scope does.
use Rattle.std.proofs.Common.{◌≡◌, ℕ, Bool, true, List, [], ◌∷◌, Option, Some, None, Result, Ok, subst}
use Rattle.warg_values.specs.ReadingLaws.{bind_ok, ok_is, never}
use Rattle.comp_format.specs.declared.types.ValType.{ValType}
use Rattle.comp_format.specs.declared.types.ValType.TheVariants as value
use Rattle.comp_format.specs.declared.types.DefinedType.{DefinedType}
use Rattle.comp_format.specs.declared.types.DefinedType.TheVariants as defined
use Rattle.comp_format.specs.declared.types.FuncType.{FuncType}
use Rattle.comp_entity.specs.Entity.{Name, ValueTree, ValueTrees, Cases, Payload, FuncTree, Value, Resource, IsType}
use Rattle.comp_entity.specs.Bounds.{ShapeFault}
use Rattle.comp_scope.specs.Spaces.{Spaces, Standing, at_index}
use Rattle.comp_scope.specs.Values.{as_value, as_resource, part_of, payload_of, resource_of, parts_of, fields_of, cases_of, value_of, params_of, result_of, func_of}
use Rattle.comp_coherence.specs.Coherence.{Names, OneTree, OneTrees, OneTreeCases, OneTreePayload, OneTreeParams, OneTreeResult, OneTreeFunc, Coheres}
use Rattle.comp_coherence.proofs.Scopes.{AllKept, at_kept}

-- what is read without a fault
abbrev pub answer : {X : Type 0} → X → Result X ShapeFault
answer x = Ok x

module _ (names : Names) where
  is_of : {X : Type 0} (P : X → Type 0) (x y : X) → answer x ≡ answer y → P x → P y
  is_of P x y e h = subst P (ok_is {F = ShapeFault} x y e) h

  as_value_kept : (e : Standing) (v : ValueTree × Bool) → Coheres names e.0 → as_value e ≡ Ok v → OneTree names v.0
  as_value_kept (IsType (Value t), named) v h e = is_of (λ v. OneTree names v.0) _ v e h
  as_value_kept _ v h e = never _ _ e

  as_resource_kept : (e : Standing) (r : Name × Bool) → Coheres names e.0 → as_resource e ≡ Ok r → names.resource r.0 ≡ true
  as_resource_kept (IsType (Resource r), named) v h e = is_of (λ v. names.resource v.0 ≡ true) _ v e h
  as_resource_kept _ v h e = never _ _ e

  module _ (s : Spaces) (k : AllKept names s) where
    part_kept : (t : ValType) (v : ValueTree × Bool) → part_of s t ≡ Ok v → OneTree names v.0
    unfolding part_of
    part_kept (value.Primitive p) v e = is_of (λ v. OneTree names v.0) _ v e tt
    part_kept (value.Index i) v e =
        let a = bind_ok (at_index s.types i) as_value v e in
        as_value_kept a.0 v (at_kept names s.types i a.0 k.types a.1) a.2

    payload_kept : (t : Option ValType) (p : Payload × Bool) → payload_of s t ≡ Ok p → OneTreePayload names p.0
    unfolding payload_of
    payload_kept None p e = is_of (λ v. OneTreePayload names v.0) _ p e tt
    payload_kept (Some t) p e =
        let a = bind_ok (part_of s t) _ p e in
        is_of (λ v. OneTreePayload names v.0) _ p a.2 (part_kept t a.0 a.1)

    pub resource_kept : (i : ℕ) (r : Name × Bool) → resource_of s i ≡ Ok r → names.resource r.0 ≡ true
    unfolding resource_of
    resource_kept i r e =
        let a = bind_ok (at_index s.types i) as_resource r e in
        as_resource_kept a.0 r (at_kept names s.types i a.0 k.types a.1) a.2

    parts_kept : (ts : List ValType) (v : ValueTrees × Bool) → parts_of s ts ≡ Ok v → OneTrees names v.0
    unfolding parts_of
    parts_kept [] v e = is_of (λ v. OneTrees names v.0) _ v e tt
    parts_kept (t ∷ ts) v e =
        let a = bind_ok (part_of s t) _ v e in
        let b = bind_ok (parts_of s ts) _ v a.2 in
        is_of (λ v. OneTrees names v.0) _ v b.2 (part_kept t a.0 a.1, parts_kept ts b.0 b.1)

    fields_kept : (fs : List (List ℕ × ValType)) (v : Cases × Bool) → fields_of s fs ≡ Ok v → OneTreeCases names v.0
    unfolding fields_of
    fields_kept [] v e = is_of (λ v. OneTreeCases names v.0) _ v e tt
    fields_kept (f ∷ fs) v e =
        let a = bind_ok (part_of s f.1) _ v e in
        let b = bind_ok (fields_of s fs) _ v a.2 in
        is_of (λ v. OneTreeCases names v.0) _ v b.2 (part_kept f.1 a.0 a.1, fields_kept fs b.0 b.1)

    cases_kept : (cs : List (List ℕ × Option ValType)) (v : Cases × Bool) → cases_of s cs ≡ Ok v → OneTreeCases names v.0
    unfolding cases_of
    cases_kept [] v e = is_of (λ v. OneTreeCases names v.0) _ v e tt
    cases_kept (c ∷ cs) v e =
        let a = bind_ok (payload_of s c.1) _ v e in
        let b = bind_ok (cases_of s cs) _ v a.2 in
        is_of (λ v. OneTreeCases names v.0) _ v b.2 (payload_kept c.1 a.0 a.1, cases_kept cs b.0 b.1)

    pub defined_kept : (d : DefinedType) (v : ValueTree × Bool) → value_of s d ≡ Ok v → OneTree names v.0
    unfolding value_of
    defined_kept (defined.Primitive p) v e = is_of (λ v. OneTree names v.0) _ v e tt
    defined_kept (defined.RecordOf fs) v e = let a = bind_ok (fields_of s fs) _ v e in is_of (λ v. OneTree names v.0) _ v a.2 (tt, fields_kept fs a.0 a.1)
    defined_kept (defined.VariantOf cs) v e = let a = bind_ok (cases_of s cs) _ v e in is_of (λ v. OneTree names v.0) _ v a.2 (tt, cases_kept cs a.0 a.1)
    defined_kept (defined.ListOf t) v e = let a = bind_ok (part_of s t) _ v e in is_of (λ v. OneTree names v.0) _ v a.2 (part_kept t a.0 a.1)
    defined_kept (defined.TupleOf ts) v e = let a = bind_ok (parts_of s ts) _ v e in is_of (λ v. OneTree names v.0) _ v a.2 (parts_kept ts a.0 a.1)
    defined_kept (defined.FlagsOf ls) v e = is_of (λ v. OneTree names v.0) _ v e tt
    defined_kept (defined.EnumOf ls) v e = is_of (λ v. OneTree names v.0) _ v e tt
    defined_kept (defined.OptionOf t) v e = let a = bind_ok (part_of s t) _ v e in is_of (λ v. OneTree names v.0) _ v a.2 (part_kept t a.0 a.1)
    defined_kept (defined.ResultOf ok err) v e =
        let a = bind_ok (payload_of s ok) _ v e in
        let b = bind_ok (payload_of s err) _ v a.2 in
        is_of (λ v. OneTree names v.0) _ v b.2 (payload_kept ok a.0 a.1, payload_kept err b.0 b.1)
    defined_kept (defined.Own i) v e = let a = bind_ok (resource_of s i) _ v e in is_of (λ v. OneTree names v.0) _ v a.2 (resource_kept i a.0 a.1)
    defined_kept (defined.Borrow i) v e = let a = bind_ok (resource_of s i) _ v e in is_of (λ v. OneTree names v.0) _ v a.2 (resource_kept i a.0 a.1)

    params_kept : (ps : List (List ℕ × ValType)) (v : List (List ℕ × ValueTree) × Bool) → params_of s ps ≡ Ok v → OneTreeParams names v.0
    unfolding params_of
    params_kept [] v e = is_of (λ v. OneTreeParams names v.0) _ v e tt
    params_kept (p ∷ ps) v e =
        let a = bind_ok (part_of s p.1) _ v e in
        let b = bind_ok (params_of s ps) _ v a.2 in
        is_of (λ v. OneTreeParams names v.0) _ v b.2 (part_kept p.1 a.0 a.1, params_kept ps b.0 b.1)

    result_kept : (t : Option ValType) (v : Option ValueTree × Bool) → result_of s t ≡ Ok v → OneTreeResult names v.0
    unfolding result_of
    result_kept None v e = is_of (λ v. OneTreeResult names v.0) _ v e tt
    result_kept (Some t) v e = let a = bind_ok (part_of s t) _ v e in is_of (λ v. OneTreeResult names v.0) _ v a.2 (part_kept t a.0 a.1)

    pub func_kept : (f : FuncType) (v : FuncTree × Bool) → func_of s f ≡ Ok v → OneTreeFunc names v.0
    unfolding func_of
    func_kept f v e =
        let a = bind_ok (params_of s f.params) _ v e in
        let b = bind_ok (result_of s f.result) _ v a.2 in
        is_of (λ v. OneTreeFunc names v.0) _ v b.2 (params_kept f.params a.0 a.1, result_kept f.result b.0 b.1)
