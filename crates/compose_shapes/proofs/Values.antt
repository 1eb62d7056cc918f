-- Types of values and of functions mention what stands in the index spaces.
use Rattle.std.proofs.Common.{◌≡◌, ℕ, zero, suc, Bool, true, false, List, [], ◌∷◌, ◌++◌, Option, Some, None, Result, Ok, Err, refl, sym, subst}
use Rattle.std.specs.Prelude.{IfOk, flat_map, option_to_list, if◌then◌else◌}
use Rattle.std.specs.List.{AllByRecursion}
use Rattle.warg_values.specs.Reading.{◌>>=◌}
use Rattle.comp_format.specs.declared.types.DefinedType.{DefinedType}
use Rattle.comp_format.specs.declared.types.DefinedType.TheVariants as defined
use Rattle.comp_format.specs.declared.types.FuncType.{FuncType}
use Rattle.comp_format.specs.declared.types.ValType.{ValType}
use Rattle.comp_format.specs.declared.types.ValType.TheVariants as value
use Rattle.comp_entity.specs.Bounds.{ShapeFault, Bounds, TooDeep, TooBig, kept, is_within, depth_of, entity_nodes}
use Rattle.comp_entity.specs.Entity.{Name, ValueTree, Value, Resource, Func, Instance, Component, EntityTree, IsType, IsFunc, IsInstance, IsComponent, IsModule, IsOwnModule}
use Rattle.comp_entity.specs.Names.{Mention, OfResource, in_value, in_values, in_cases, in_payload, in_func}
use Rattle.comp_scope.specs.Spaces.{Standing, Spaces, at_index}
use Rattle.comp_scope.specs.Values.{as_value, as_resource, part_of, payload_of, resource_of, parts_of, fields_of, cases_of, value_of, params_of, result_of, func_of}
use Rattle.compose_left.specs.declared.spots.Thing.{Thing}
use Rattle.compose_needs.specs.Mentioned.{mentioned, outward, outwards}
use Rattle.compose_shapes.proofs.Known.{at_resource, of_resource}
use Rattle.compose_shapes.proofs.Mentions.{called, outwards-append}
use Rattle.compose_shapes.proofs.Things.{front, joined}

-- ---- readings that give what has a property

pub then_ok : {X Y : Type 0} (Q : X → Type 0) (P : Y → Type 0) (r : Result X ShapeFault) (f : X → Result Y ShapeFault)
    → IfOk r Q → ((x : X) → Q x → IfOk (f x) P) → IfOk (r >>= f) P
then_ok Q P (Ok x) f h next = next x h
then_ok Q P (Err e) f h next = tt

-- a test that refuses, and one that lets pass
pub refused_ok : {Y : Type 0} (P : Y → Type 0) (b : Bool) (e : ShapeFault) (r : Result Y ShapeFault)
    → (b ≡ false → IfOk r P) → IfOk (if b then Err e else r) P
refused_ok P true e r h = tt
refused_ok P false e r h = h refl

pub passed_ok : {Y : Type 0} (P : Y → Type 0) (b : Bool) (e : ShapeFault) (r : Result Y ShapeFault) → IfOk r P
    → IfOk (if b then r else Err e) P
passed_ok P true e r h = h
passed_ok P false e r h = tt

pub kept_ok : {X : Type 0} (P : X → Type 0) (b : Bounds) (e : EntityTree) (x : X) → P x → IfOk (kept b e x) P
kept_ok P b e x h =
    passed_ok P (is_within b.depth (depth_of e)) TooDeep _
    (passed_ok P (is_within b.nodes (entity_nodes e)) TooBig (Ok x) h)

pub index_ok : {X : Type 0} (P : X → Type 0) (xs : List X) (i : ℕ) → AllByRecursion P xs → IfOk (at_index xs i) P
index_ok P [] i h = tt
index_ok P (x ∷ xs) zero h = h.0
index_ok P (x ∷ xs) (suc i) h = index_ok P xs i h.1

pub both_ok : {X : Type 0} (P Q : X → Type 0) (r : Result X ShapeFault) → IfOk r P → IfOk r Q → IfOk r (λ x. P x × Q x)
both_ok P Q (Ok x) h k = (h, k)
both_ok P Q (Err e) h k = tt

pub weaker_ok : {X : Type 0} (P Q : X → Type 0) (r : Result X ShapeFault) → ((x : X) → P x → Q x) → IfOk r P → IfOk r Q
weaker_ok P Q (Ok x) w h = w x h
weaker_ok P Q (Err e) w h = tt

abbrev pub Anything : {X : Type 0} → X → Type 0
Anything x = Unit {0}

pub anything : {X : Type 0} (r : Result X ShapeFault) → IfOk r Anything
anything (Ok x) = tt
anything (Err e) = tt

-- ---- types of values

module _ (P : Thing → Type 0) where
  abbrev pub All : List (ℕ × Mention) → Type 0
  All ms = AllByRecursion P (outwards ms)

  pub together : (xs ys : List (ℕ × Mention)) → All xs → All ys → All (xs ++ ys)
  together xs ys h k = subst (AllByRecursion P) (sym (outwards-append xs ys)) (joined P (outwards xs) (outwards ys) h k)

  abbrev pub Stands : Standing → Type 0
  Stands st = AllByRecursion P (mentioned st.0)

  value_there : (st : Standing) → Stands st → IfOk (as_value st) (λ x. All (in_value 0 x.0))
  value_there (IsType (Value t), named) h = h
  value_there (IsType (Resource r), named) h = tt
  value_there (IsType (Func f), named) h = tt
  value_there (IsType (Instance es), named) h = tt
  value_there (IsType (Component is es), named) h = tt
  value_there (IsFunc f, named) h = tt
  value_there (IsInstance es, named) h = tt
  value_there (IsComponent is es, named) h = tt
  value_there (IsModule m, named) h = tt
  value_there (IsOwnModule, named) h = tt

  resource_is_there : (st : Standing) → Stands st → IfOk (as_resource st) (λ x. P (called false x.0))
  resource_is_there (IsType (Resource r), named) h = of_resource P r (front P _ [] h)
  resource_is_there (IsType (Value t), named) h = tt
  resource_is_there (IsType (Func f), named) h = tt
  resource_is_there (IsType (Instance es), named) h = tt
  resource_is_there (IsType (Component is es), named) h = tt
  resource_is_there (IsFunc f, named) h = tt
  resource_is_there (IsInstance es, named) h = tt
  resource_is_there (IsComponent is es, named) h = tt
  resource_is_there (IsModule m, named) h = tt
  resource_is_there (IsOwnModule, named) h = tt

  module _ (s : Spaces) (h : AllByRecursion Stands s.types) where
    part_good : (t : ValType) → IfOk (part_of s t) (λ x. All (in_value 0 x.0))
    unfolding part_of
    part_good (value.Primitive p) = tt
    part_good (value.Index i) = then_ok Stands _ (at_index s.types i) as_value (index_ok Stands s.types i h) value_there

    payload_good : (p : Option ValType) → IfOk (payload_of s p) (λ x. All (in_payload 0 x.0))
    unfolding payload_of
    payload_good None = tt
    payload_good (Some t) = then_ok (λ x. All (in_value 0 x.0)) _ (part_of s t) _ (part_good t) (λ x k. k)

    resource_good : (i : ℕ) → IfOk (resource_of s i) (λ x. P (called false x.0))
    unfolding resource_of
    resource_good i = then_ok Stands _ (at_index s.types i) as_resource (index_ok Stands s.types i h) resource_is_there

    parts_good : (ts : List ValType) → IfOk (parts_of s ts) (λ x. All (in_values 0 x.0))
    unfolding parts_of
    parts_good [] = tt
    parts_good (t ∷ ts) = then_ok (λ x. All (in_value 0 x.0)) _ (part_of s t) _ (part_good t) (λ v k.
        then_ok (λ x. All (in_values 0 x.0)) _ (parts_of s ts) _ (parts_good ts)
        (λ vs l. together (in_value 0 v.0) (in_values 0 vs.0) k l))

    fields_good : (fs : List (List ℕ × ValType)) → IfOk (fields_of s fs) (λ x. All (in_cases 0 x.0))
    unfolding fields_of
    fields_good [] = tt
    fields_good (f ∷ fs) = then_ok (λ x. All (in_value 0 x.0)) _ (part_of s f.1) _ (part_good f.1) (λ v k.
        then_ok (λ x. All (in_cases 0 x.0)) _ (fields_of s fs) _ (fields_good fs)
        (λ vs l. together (in_value 0 v.0) (in_cases 0 vs.0) k l))

    cases_good : (cs : List (List ℕ × Option ValType)) → IfOk (cases_of s cs) (λ x. All (in_cases 0 x.0))
    unfolding cases_of
    cases_good [] = tt
    cases_good (c ∷ cs) = then_ok (λ x. All (in_payload 0 x.0)) _ (payload_of s c.1) _ (payload_good c.1) (λ p k.
        then_ok (λ x. All (in_cases 0 x.0)) _ (cases_of s cs) _ (cases_good cs)
        (λ ps l. together (in_payload 0 p.0) (in_cases 0 ps.0) k l))

    handle : (r : Name) → P (called false r) → All ((0, OfResource r) ∷ [])
    handle r k = joined P (outward (0, OfResource r)) [] (at_resource P r k) tt

    pub value_good : (d : DefinedType) → IfOk (value_of s d) (λ x. All (in_value 0 x.0))
    unfolding value_of
    value_good (defined.Primitive p) = tt
    value_good (defined.RecordOf fields) =
        then_ok (λ x. All (in_cases 0 x.0)) _ (fields_of s fields) _ (fields_good fields) (λ x k. k)
    value_good (defined.VariantOf cases) =
        then_ok (λ x. All (in_cases 0 x.0)) _ (cases_of s cases) _ (cases_good cases) (λ x k. k)
    value_good (defined.ListOf t) = then_ok (λ x. All (in_value 0 x.0)) _ (part_of s t) _ (part_good t) (λ x k. k)
    value_good (defined.TupleOf parts) =
        then_ok (λ x. All (in_values 0 x.0)) _ (parts_of s parts) _ (parts_good parts) (λ x k. k)
    value_good (defined.FlagsOf labels) = tt
    value_good (defined.EnumOf labels) = tt
    value_good (defined.OptionOf t) = then_ok (λ x. All (in_value 0 x.0)) _ (part_of s t) _ (part_good t) (λ x k. k)
    value_good (defined.ResultOf ok err) =
        then_ok (λ x. All (in_payload 0 x.0)) _ (payload_of s ok) _ (payload_good ok) (λ x k.
        then_ok (λ x. All (in_payload 0 x.0)) _ (payload_of s err) _ (payload_good err)
        (λ y l. together (in_payload 0 x.0) (in_payload 0 y.0) k l))
    value_good (defined.Own i) =
        then_ok (λ x. P (called false x.0)) _ (resource_of s i) _ (resource_good i) (λ r k. handle r.0 k)
    value_good (defined.Borrow i) =
        then_ok (λ x. P (called false x.0)) _ (resource_of s i) _ (resource_good i) (λ r k. handle r.0 k)

    -- ---- types of functions

    abbrev pub in_params : List (List ℕ × ValueTree) → List (ℕ × Mention)
    in_params ps = flat_map (λ (p : List ℕ × ValueTree). in_value 0 p.1) ps

    params_good : (ps : List (List ℕ × ValType)) → IfOk (params_of s ps) (λ x. All (in_params x.0))
    unfolding params_of
    params_good [] = tt
    params_good (p ∷ ps) = then_ok (λ x. All (in_value 0 x.0)) _ (part_of s p.1) _ (part_good p.1) (λ v k.
        then_ok (λ x. All (in_params x.0)) _ (params_of s ps) _ (params_good ps)
        (λ vs l. together (in_value 0 v.0) (in_params vs.0) k l))

    result_good : (r : Option ValType) → IfOk (result_of s r) (λ x. All (flat_map (in_value 0) (option_to_list x.0)))
    unfolding result_of
    result_good None = tt
    result_good (Some t) =
        then_ok (λ x. All (in_value 0 x.0)) _ (part_of s t) _ (part_good t) (λ x k. together (in_value 0 x.0) [] k tt)

    pub func_good : (f : FuncType) → IfOk (func_of s f) (λ x. All (in_func 0 x.0))
    unfolding func_of
    func_good f = then_ok (λ x. All (in_params x.0)) _ (params_of s f.params) _ (params_good f.params) (λ ps k.
        then_ok (λ x. All (flat_map (in_value 0) (option_to_list x.0))) _ (result_of s f.result) _
        (result_good f.result) (λ r l.
        together (in_params ps.0) (flat_map (in_value 0) (option_to_list r.0)) k l))
