-- Which resources are mentioned does not depend on the places that named types.
use Rattle.std.proofs.Common.{◌≡◌, ℕ, suc, List, [], ◌∷◌, ◌++◌, map, Option, Some, None, refl, sym, ap, ◌∙◌, append_assoc}
use Rattle.std.specs.Prelude.{flat_map, option_map, option_to_list}
use Rattle.comp_entity.specs.Entity.{Name, ValueTree, Primitive, TupleOf, RecordOf, VariantOf, ListOf, FlagsOf, EnumOf, OptionOf, ResultOf, Own, Borrow, ValueTrees, none, more, Cases, no_case, labelled, Payload, absent, present, FuncTree, TypeShapeTree, Value, Resource, Func, Instance, Component, EntityTree, IsType, IsFunc, IsInstance, IsComponent, IsModule, IsOwnModule, Entries, no_entry, entry}
use Rattle.comp_entity.specs.Names.{Change, place_by, value_by, values_by, cases_by, payload_by, func_by, type_by, entity_by, entries_by, Mention, OfResource, at_place, in_value, in_values, in_cases, in_payload, in_func, in_type, in_entity, in_entries, resource_at}

-- the resources of the scope so far out
abbrev pub resources : ℕ → List (ℕ × Mention) → List ℕ
resources out ms = flat_map (resource_at out) ms

both : (out : ℕ) (xs ys : List (ℕ × Mention)) → resources out (xs ++ ys) ≡ resources out xs ++ resources out ys
both out [] ys = refl
both out (x ∷ xs) ys = ap (λ ns. resource_at out x ++ ns) (both out xs ys) ∙ sym (append_assoc (resource_at out x) (resources out xs) (resources out ys))

pub alike : (out : ℕ) (xs ys vs ws : List (ℕ × Mention)) → resources out xs ≡ resources out vs → resources out ys ≡ resources out ws → resources out (xs ++ ys) ≡ resources out (vs ++ ws)
alike out xs ys vs ws g h = both out xs ys ∙ (λ i. g i ++ h i) ∙ sym (both out vs ws)

no_place : (out d : ℕ) (p : Option Name) → resources out (at_place d p) ≡ []
no_place out d None = refl
no_place out d (Some n) = refl

-- a change that leaves, of each resource, whether it is of that scope, and its number there
module _ (out : ℕ) (c : Change) (same : (d : ℕ) (n : Name) → resource_at out (d, OfResource (c.resource d n)) ≡ resource_at out (d, OfResource n)) where
  behind : (d : ℕ) (p q : Option Name) (xs ys : List (ℕ × Mention)) → resources out xs ≡ resources out ys → resources out (at_place d p ++ xs) ≡ resources out (at_place d q ++ ys)
  behind d p q xs ys h = alike out (at_place d p) xs (at_place d q) ys (no_place out d p ∙ sym (no_place out d q)) h

  mutual
    value_alike : (d : ℕ) (t : ValueTree) → resources out (in_value d (value_by c d t)) ≡ resources out (in_value d t)
    value_alike d (Primitive p) = refl
    value_alike d (TupleOf parts) = values_alike d parts
    value_alike d (RecordOf p fields) = behind d (place_by c d p) p (in_cases d (cases_by c d fields)) (in_cases d fields) (cases_alike d fields)
    value_alike d (VariantOf p cases) = behind d (place_by c d p) p (in_cases d (cases_by c d cases)) (in_cases d cases) (cases_alike d cases)
    value_alike d (ListOf t) = value_alike d t
    value_alike d (FlagsOf p labels) = no_place out d (place_by c d p) ∙ sym (no_place out d p)
    value_alike d (EnumOf p labels) = no_place out d (place_by c d p) ∙ sym (no_place out d p)
    value_alike d (OptionOf t) = value_alike d t
    value_alike d (ResultOf ok err) = alike out (in_payload d (payload_by c d ok)) (in_payload d (payload_by c d err)) (in_payload d ok) (in_payload d err) (payload_alike d ok) (payload_alike d err)
    value_alike d (Own r) = ap (λ ns. ns ++ []) (same d r)
    value_alike d (Borrow r) = ap (λ ns. ns ++ []) (same d r)

    values_alike : (d : ℕ) (ts : ValueTrees) → resources out (in_values d (values_by c d ts)) ≡ resources out (in_values d ts)
    values_alike d none = refl
    values_alike d (more t ts) = alike out (in_value d (value_by c d t)) (in_values d (values_by c d ts)) (in_value d t) (in_values d ts) (value_alike d t) (values_alike d ts)

    cases_alike : (d : ℕ) (cs : Cases) → resources out (in_cases d (cases_by c d cs)) ≡ resources out (in_cases d cs)
    cases_alike d no_case = refl
    cases_alike d (labelled label p cs) = alike out (in_payload d (payload_by c d p)) (in_cases d (cases_by c d cs)) (in_payload d p) (in_cases d cs) (payload_alike d p) (cases_alike d cs)

    payload_alike : (d : ℕ) (p : Payload) → resources out (in_payload d (payload_by c d p)) ≡ resources out (in_payload d p)
    payload_alike d absent = refl
    payload_alike d (present t) = value_alike d t

  params_alike : (d : ℕ) (ps : List (List ℕ × ValueTree)) → resources out (flat_map (λ (p : List ℕ × ValueTree). in_value d p.1) (map (λ p. (p.0, value_by c d p.1)) ps)) ≡ resources out (flat_map (λ (p : List ℕ × ValueTree). in_value d p.1) ps)
  params_alike d [] = refl
  params_alike d (p ∷ ps) = alike out (in_value d (value_by c d p.1)) (flat_map (λ (p : List ℕ × ValueTree). in_value d p.1) (map (λ p. (p.0, value_by c d p.1)) ps)) (in_value d p.1) (flat_map (λ (p : List ℕ × ValueTree). in_value d p.1) ps) (value_alike d p.1) (params_alike d ps)

  result_alike : (d : ℕ) (r : Option ValueTree) → resources out (flat_map (in_value d) (option_to_list (option_map (value_by c d) r))) ≡ resources out (flat_map (in_value d) (option_to_list r))
  result_alike d None = refl
  result_alike d (Some t) = alike out (in_value d (value_by c d t)) [] (in_value d t) [] (value_alike d t) refl

  func_alike : (d : ℕ) (f : FuncTree) → resources out (in_func d (func_by c d f)) ≡ resources out (in_func d f)
  func_alike d f = alike out (flat_map (λ (p : List ℕ × ValueTree). in_value d p.1) (map (λ p. (p.0, value_by c d p.1)) f.params)) (flat_map (in_value d) (option_to_list (option_map (value_by c d) f.result)))
      (flat_map (λ (p : List ℕ × ValueTree). in_value d p.1) f.params) (flat_map (in_value d) (option_to_list f.result)) (params_alike d f.params) (result_alike d f.result)

  mutual
    type_alike : (d : ℕ) (t : TypeShapeTree) → resources out (in_type d (type_by c d t)) ≡ resources out (in_type d t)
    type_alike d (Value t) = value_alike d t
    type_alike d (Resource r) = ap (λ ns. ns ++ []) (same d r)
    type_alike d (Func f) = func_alike d f
    type_alike d (Instance es) = entries_alike (suc d) es
    type_alike d (Component is es) = alike out (in_entries (suc (suc d)) (entries_by c (suc (suc d)) is)) (in_entries (suc (suc d)) (entries_by c (suc (suc d)) es)) (in_entries (suc (suc d)) is) (in_entries (suc (suc d)) es) (entries_alike (suc (suc d)) is) (entries_alike (suc (suc d)) es)

    entity_alike : (d : ℕ) (e : EntityTree) → resources out (in_entity d (entity_by c d e)) ≡ resources out (in_entity d e)
    entity_alike d (IsType t) = type_alike d t
    entity_alike d (IsFunc f) = func_alike d f
    entity_alike d (IsInstance es) = entries_alike d es
    entity_alike d (IsComponent is es) = alike out (in_entries (suc (suc d)) (entries_by c (suc (suc d)) is)) (in_entries (suc (suc d)) (entries_by c (suc (suc d)) es)) (in_entries (suc (suc d)) is) (in_entries (suc (suc d)) es) (entries_alike (suc (suc d)) is) (entries_alike (suc (suc d)) es)
    entity_alike d (IsModule m) = refl
    entity_alike d IsOwnModule = refl

    pub entries_alike : (d : ℕ) (es : Entries) → resources out (in_entries d (entries_by c d es)) ≡ resources out (in_entries d es)
    entries_alike d no_entry = refl
    entries_alike d (entry name e mark es) = alike out (in_entity d (entity_by c d e)) (in_entries d (entries_by c d es)) (in_entity d e) (in_entries d es) (entity_alike d e) (entries_alike d es)
