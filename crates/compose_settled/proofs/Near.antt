-- What an entity mentions of its own scope stays where names around the scope are changed.
use Rattle.std.proofs.Common.{◌≡◌, ℕ, suc, ◌+◌, ◌-◌, ◌<◌, Bool, true, false, cond, List, [], ◌∷◌, ◌++◌, map, Option, Some, None, refl, sym, ap, ◌∙◌, arith}
use Rattle.std.specs.Prelude.{filter, flat_map, nat_le, nat_lt, option_map, option_to_list}
use Rattle.std.proofs.lemmas.List.Elements.{filter-append}
use Rattle.std.proofs.lemmas.Grind.{flat_map-append}
use Rattle.comp_entity.specs.Entity.{Name, ValueTree, Primitive, TupleOf, RecordOf, VariantOf, ListOf, FlagsOf, EnumOf, OptionOf, ResultOf, Own, Borrow, ValueTrees, none, more, Cases, no_case, labelled, Payload, absent, present, FuncTree, TypeShapeTree, Value, Resource, Func, Instance, Component, EntityTree, IsType, IsFunc, IsInstance, IsComponent, IsModule, IsOwnModule, Entries, no_entry, entry}
use Rattle.comp_entity.specs.Names.{Change, Mention, at_place, changing, deeper, outside, place_by, value_by, values_by, cases_by, payload_by, func_by, type_by, entity_by, entries_by, in_value, in_values, in_cases, in_payload, in_func, in_type, in_entity, in_entries}
use Rattle.compose_left.specs.declared.spots.Thing.{Thing}
use Rattle.compose_needs.specs.Mentioned.{outward, outwards}
use Rattle.compose_known.specs.InOrder.{is_of_scope}

-- what is mentioned of the own scope
abbrev pub near : List (ℕ × Mention) → List Thing
near ms = filter is_of_scope (outwards ms)

near_both : (xs ys : List (ℕ × Mention)) → near (xs ++ ys) ≡ near xs ++ near ys
near_both xs ys = ap (filter is_of_scope) (flat_map-append outward xs ys) ∙ filter-append is_of_scope (outwards xs) (outwards ys)

joined : (xs us ys vs : List (ℕ × Mention)) → near xs ≡ near us → near ys ≡ near vs → near (xs ++ ys) ≡ near (us ++ vs)
joined xs us ys vs h k = near_both xs ys ∙ (λ i. h i ++ k i) ∙ sym (near_both us vs)

-- ---- one mention

abbrev near_name : Bool → ℕ → Name → List Thing
near_name is_type k n = filter is_of_scope (cond (nat_le k n.out) (record { is_type = is_type; out = n.out - k; number = n.number } ∷ []) [] ++ [])

-- what is of a scope further out is not near
far : (is_type : Bool) (k : ℕ) (n : Name) → k < n.out → near_name is_type k n ≡ []
far is_type k n less =
    let there : nat_le k n.out ≡ true = grind arith in
    let out : nat_lt (n.out - k) 1 ≡ false = grind arith in
    ap (λ b. filter is_of_scope (cond b (record { is_type = is_type; out = n.out - k; number = n.number } ∷ []) [] ++ [])) there
    ∙ ap (λ b. cond b (record { is_type = is_type; out = n.out - k; number = n.number } ∷ []) []) out

name_stays : (f : Name → Name) (is_type : Bool) (k d : ℕ) → k < d → (n : Name) → near_name is_type k (outside f d n) ≡ near_name is_type k n
name_stays f is_type k d less n = by (nat_lt n.out d) refl
  where
    by : (b : Bool) → nat_lt n.out d ≡ b → near_name is_type k (cond b n (deeper d (f (record n { out = n.out - d })))) ≡ near_name is_type k n
    by true lt = refl
    by false ge =
        let m : Name = f (record n { out = n.out - d }) in
        let outer : k < n.out = grind (arith, less) in
        let changed : k < m.out + d = omega (arith, less) in
        far is_type k (deeper d m) changed ∙ sym (far is_type k n outer)

-- ---- trees

module _ (f g : Name → Name) where
  abbrev c : Change
  c = changing f g

  place_stays : (k d : ℕ) → k < d → (p : Option Name) → near (at_place k (place_by c d p)) ≡ near (at_place k p)
  place_stays k d less None = refl
  place_stays k d less (Some n) = name_stays g true k d less n

  module _ (k d : ℕ) (less : k < d) where
    mutual
      value_stays : (t : ValueTree) → near (in_value k (value_by c d t)) ≡ near (in_value k t)
      value_stays (Primitive p) = refl
      value_stays (TupleOf ts) = values_stay ts
      value_stays (RecordOf p cs) = joined (at_place k (place_by c d p)) (at_place k p) (in_cases k (cases_by c d cs)) (in_cases k cs) (place_stays k d less p) (cases_stay cs)
      value_stays (VariantOf p cs) = joined (at_place k (place_by c d p)) (at_place k p) (in_cases k (cases_by c d cs)) (in_cases k cs) (place_stays k d less p) (cases_stay cs)
      value_stays (ListOf t) = value_stays t
      value_stays (FlagsOf p ls) = place_stays k d less p
      value_stays (EnumOf p ls) = place_stays k d less p
      value_stays (OptionOf t) = value_stays t
      value_stays (ResultOf ok err) = joined (in_payload k (payload_by c d ok)) (in_payload k ok) (in_payload k (payload_by c d err)) (in_payload k err) (payload_stays ok) (payload_stays err)
      value_stays (Own r) = name_stays f false k d less r
      value_stays (Borrow r) = name_stays f false k d less r

      values_stay : (ts : ValueTrees) → near (in_values k (values_by c d ts)) ≡ near (in_values k ts)
      values_stay none = refl
      values_stay (more t ts) = joined (in_value k (value_by c d t)) (in_value k t) (in_values k (values_by c d ts)) (in_values k ts) (value_stays t) (values_stay ts)

      cases_stay : (cs : Cases) → near (in_cases k (cases_by c d cs)) ≡ near (in_cases k cs)
      cases_stay no_case = refl
      cases_stay (labelled l p cs) = joined (in_payload k (payload_by c d p)) (in_payload k p) (in_cases k (cases_by c d cs)) (in_cases k cs) (payload_stays p) (cases_stay cs)

      payload_stays : (p : Payload) → near (in_payload k (payload_by c d p)) ≡ near (in_payload k p)
      payload_stays absent = refl
      payload_stays (present t) = value_stays t

    abbrev Params : Type 0
    Params = List (List ℕ × ValueTree)

    abbrev in_params : Params → List (ℕ × Mention)
    in_params ps = flat_map (λ p. in_value k p.1) ps

    abbrev in_result : Option ValueTree → List (ℕ × Mention)
    in_result r = flat_map (in_value k) (option_to_list r)

    params_stay : (ps : Params) → near (in_params (map (λ p. (p.0, value_by c d p.1)) ps)) ≡ near (in_params ps)
    params_stay [] = refl
    params_stay (p ∷ ps) = joined (in_value k (value_by c d p.1)) (in_value k p.1) (in_params (map (λ p. (p.0, value_by c d p.1)) ps)) (in_params ps) (value_stays p.1) (params_stay ps)

    result_stays : (r : Option ValueTree) → near (in_result (option_map (value_by c d) r)) ≡ near (in_result r)
    result_stays None = refl
    result_stays (Some t) = joined (in_value k (value_by c d t)) (in_value k t) [] [] (value_stays t) refl

    func_stays : (fn : FuncTree) → near (in_func k (func_by c d fn)) ≡ near (in_func k fn)
    func_stays fn = joined (in_params (func_by c d fn).params) (in_params fn.params) (in_result (func_by c d fn).result) (in_result fn.result) (params_stay fn.params) (result_stays fn.result)

  mutual
    type_stays : (k d : ℕ) → k < d → (t : TypeShapeTree) → near (in_type k (type_by c d t)) ≡ near (in_type k t)
    type_stays k d less (Value t) = value_stays k d less t
    type_stays k d less (Resource r) = name_stays f false k d less r
    type_stays k d less (Func fn) = func_stays k d less fn
    type_stays k d less (Instance es) = entries_stay (suc k) (suc d) (omega (arith, less)) es
    type_stays k d less (Component is es) =
        joined (in_entries (suc (suc k)) (entries_by c (suc (suc d)) is)) (in_entries (suc (suc k)) is) (in_entries (suc (suc k)) (entries_by c (suc (suc d)) es)) (in_entries (suc (suc k)) es)
        (entries_stay (suc (suc k)) (suc (suc d)) (omega (arith, less)) is)
        (entries_stay (suc (suc k)) (suc (suc d)) (omega (arith, less)) es)

    pub entity_stays : (k d : ℕ) → k < d → (e : EntityTree) → near (in_entity k (entity_by c d e)) ≡ near (in_entity k e)
    entity_stays k d less (IsType t) = type_stays k d less t
    entity_stays k d less (IsFunc fn) = func_stays k d less fn
    entity_stays k d less (IsInstance es) = entries_stay k d less es
    entity_stays k d less (IsComponent is es) =
        joined (in_entries (suc (suc k)) (entries_by c (suc (suc d)) is)) (in_entries (suc (suc k)) is) (in_entries (suc (suc k)) (entries_by c (suc (suc d)) es)) (in_entries (suc (suc k)) es)
        (entries_stay (suc (suc k)) (suc (suc d)) (omega (arith, less)) is)
        (entries_stay (suc (suc k)) (suc (suc d)) (omega (arith, less)) es)
    entity_stays k d less (IsModule m) = refl
    entity_stays k d less IsOwnModule = refl

    entries_stay : (k d : ℕ) → k < d → (es : Entries) → near (in_entries k (entries_by c d es)) ≡ near (in_entries k es)
    entries_stay k d less no_entry = refl
    entries_stay k d less (entry name e mark es) =
        joined (in_entity k (entity_by c d e)) (in_entity k e) (in_entries k (entries_by c d es)) (in_entries k es) (entity_stays k d less e) (entries_stay k d less es)
