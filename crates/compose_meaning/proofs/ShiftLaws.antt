-- What holds of the mentions of an entity at one depth holds of them at another.
use Rattle.std.proofs.Common.{ℕ, suc, List, [], ◌∷◌, ◌++◌, Option, Some, None}
use Rattle.std.specs.Prelude.{flat_map, option_to_list}
use Rattle.comp_entity.specs.Entity.{Name, ValueTree, Primitive, TupleOf, RecordOf, VariantOf, ListOf, FlagsOf, EnumOf, OptionOf, ResultOf, Own, Borrow, ValueTrees, none, more, Cases, no_case, labelled, Payload, absent, present, FuncTree, TypeShapeTree, Value, Resource, Func, Instance, Component, EntityTree, IsType, IsFunc, IsInstance, IsComponent, IsModule, IsOwnModule, Entries, no_entry, entry}
use Rattle.comp_entity.specs.Names.{Mention, OfResource, OfPlace, at_place, in_value, in_values, in_cases, in_payload, in_func, in_type, in_entity, in_entries}
use Rattle.compose_meaning.proofs.ListLaws.{Each, each_both, each_left, each_right}

module _ (d e : ℕ) (P Q : ℕ × Mention → Type 0) (goes : (m : Mention) → P (d, m) → Q (e, m)) where
  two : (vs ws xs ys : List (ℕ × Mention)) → (Each P vs → Each Q xs) → (Each P ws → Each Q ys) → Each P (vs ++ ws) → Each Q (xs ++ ys)
  two vs ws xs ys f g h = each_both Q xs ys (f (each_left P vs ws h)) (g (each_right P vs ws h))

  place_shift : (p : Option Name) → Each P (at_place d p) → Each Q (at_place e p)
  place_shift None h = tt
  place_shift (Some n) h = (goes (OfPlace n) h.0, tt)

  mutual
    pub value_shift : (t : ValueTree) → Each P (in_value d t) → Each Q (in_value e t)
    value_shift (Primitive p) h = tt
    value_shift (TupleOf parts) h = values_shift parts h
    value_shift (RecordOf p fields) h = two (at_place d p) (in_cases d fields) (at_place e p) (in_cases e fields) (λ h. place_shift p h) (λ h. cases_shift fields h) h
    value_shift (VariantOf p cases) h = two (at_place d p) (in_cases d cases) (at_place e p) (in_cases e cases) (λ h. place_shift p h) (λ h. cases_shift cases h) h
    value_shift (ListOf t) h = value_shift t h
    value_shift (FlagsOf p labels) h = place_shift p h
    value_shift (EnumOf p labels) h = place_shift p h
    value_shift (OptionOf t) h = value_shift t h
    value_shift (ResultOf ok err) h = two (in_payload d ok) (in_payload d err) (in_payload e ok) (in_payload e err) (λ h. payload_shift ok h) (λ h. payload_shift err h) h
    value_shift (Own r) h = (goes (OfResource r) h.0, tt)
    value_shift (Borrow r) h = (goes (OfResource r) h.0, tt)

    values_shift : (ts : ValueTrees) → Each P (in_values d ts) → Each Q (in_values e ts)
    values_shift none h = tt
    values_shift (more t ts) h = two (in_value d t) (in_values d ts) (in_value e t) (in_values e ts) (λ h. value_shift t h) (λ h. values_shift ts h) h

    cases_shift : (cs : Cases) → Each P (in_cases d cs) → Each Q (in_cases e cs)
    cases_shift no_case h = tt
    cases_shift (labelled label p cs) h = two (in_payload d p) (in_cases d cs) (in_payload e p) (in_cases e cs) (λ h. payload_shift p h) (λ h. cases_shift cs h) h

    payload_shift : (p : Payload) → Each P (in_payload d p) → Each Q (in_payload e p)
    payload_shift absent h = tt
    payload_shift (present t) h = value_shift t h

  in_params : ℕ → List (List ℕ × ValueTree) → List (ℕ × Mention)
  in_params c ps = flat_map (λ (p : List ℕ × ValueTree). in_value c p.1) ps

  params_shift : (ps : List (List ℕ × ValueTree)) → Each P (in_params d ps) → Each Q (in_params e ps)
  unfolding in_params
  params_shift [] h = tt
  params_shift (p ∷ ps) h = two (in_value d p.1) (in_params d ps) (in_value e p.1) (in_params e ps) (λ h. value_shift p.1 h) (λ h. params_shift ps h) h

  result_shift : (r : Option ValueTree) → Each P (flat_map (in_value d) (option_to_list r)) → Each Q (flat_map (in_value e) (option_to_list r))
  result_shift None h = tt
  result_shift (Some t) h = two (in_value d t) [] (in_value e t) [] (λ h. value_shift t h) (λ h. tt) h

  pub func_shift : (f : FuncTree) → Each P (in_func d f) → Each Q (in_func e f)
  unfolding in_params
  func_shift f h = two (in_params d f.params) (flat_map (in_value d) (option_to_list f.result)) (in_params e f.params) (flat_map (in_value e) (option_to_list f.result)) (λ h. params_shift f.params h) (λ h. result_shift f.result h) h

module _ (P Q : ℕ × Mention → Type 0) (Together : ℕ → ℕ → Type 0) (deep : (d e : ℕ) → Together d e → Together (suc d) (suc e)) (goes : (d e : ℕ) → Together d e → (m : Mention) → P (d, m) → Q (e, m)) where
  mutual
    type_shift : (d e : ℕ) → Together d e → (t : TypeShapeTree) → Each P (in_type d t) → Each Q (in_type e t)
    type_shift d e g (Value t) h = value_shift d e P Q (goes d e g) t h
    type_shift d e g (Resource r) h = (goes d e g (OfResource r) h.0, tt)
    type_shift d e g (Func f) h = func_shift d e P Q (goes d e g) f h
    type_shift d e g (Instance es) h = entries_shift (suc d) (suc e) (deep d e g) es h
    type_shift d e g (Component is es) h = each_both Q (in_entries (suc (suc e)) is) (in_entries (suc (suc e)) es)
        (entries_shift (suc (suc d)) (suc (suc e)) (deep (suc d) (suc e) (deep d e g)) is (each_left P (in_entries (suc (suc d)) is) (in_entries (suc (suc d)) es) h))
        (entries_shift (suc (suc d)) (suc (suc e)) (deep (suc d) (suc e) (deep d e g)) es (each_right P (in_entries (suc (suc d)) is) (in_entries (suc (suc d)) es) h))

    entity_shift : (d e : ℕ) → Together d e → (x : EntityTree) → Each P (in_entity d x) → Each Q (in_entity e x)
    entity_shift d e g (IsType t) h = type_shift d e g t h
    entity_shift d e g (IsFunc f) h = func_shift d e P Q (goes d e g) f h
    entity_shift d e g (IsInstance es) h = entries_shift d e g es h
    entity_shift d e g (IsComponent is es) h = each_both Q (in_entries (suc (suc e)) is) (in_entries (suc (suc e)) es)
        (entries_shift (suc (suc d)) (suc (suc e)) (deep (suc d) (suc e) (deep d e g)) is (each_left P (in_entries (suc (suc d)) is) (in_entries (suc (suc d)) es) h))
        (entries_shift (suc (suc d)) (suc (suc e)) (deep (suc d) (suc e) (deep d e g)) es (each_right P (in_entries (suc (suc d)) is) (in_entries (suc (suc d)) es) h))
    entity_shift d e g (IsModule m) h = tt
    entity_shift d e g IsOwnModule h = tt

    pub entries_shift : (d e : ℕ) → Together d e → (es : Entries) → Each P (in_entries d es) → Each Q (in_entries e es)
    entries_shift d e g no_entry h = tt
    entries_shift d e g (entry name x mark es) h = each_both Q (in_entity e x) (in_entries e es) (entity_shift d e g x (each_left P (in_entity d x) (in_entries d es) h)) (entries_shift d e g es (each_right P (in_entity d x) (in_entries d es) h))
