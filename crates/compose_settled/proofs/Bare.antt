-- What coheres with names does so where, in the types for which they stand, the places that named types are set aside.
use Rattle.std.proofs.Common.{◌≡◌, ℕ, Bool, true, false, cond, List, [], ◌∷◌, Option, Some, None, refl, sym, ap, ◌∙◌}
use Rattle.std.specs.Prelude.{nat_lt, option_map}
use Rattle.comp_entity.specs.Entity.{Name, ValueTree, Primitive, TupleOf, RecordOf, VariantOf, ListOf, FlagsOf, EnumOf, OptionOf, ResultOf, Own, Borrow, ValueTrees, none, more, Cases, no_case, labelled, Payload, absent, present, FuncTree, TypeShapeTree, Value, Resource, Func, Instance, Component, EntityTree, IsType, IsFunc, IsInstance, IsComponent, IsModule, IsOwnModule, Entries, no_entry, entry}
use Rattle.comp_entity.specs.Names.{Change, changing, deeper, outside, value_by, without_places}
use Rattle.comp_entity.specs.NameLaws.{value_twice}
use Rattle.comp_coherence.specs.Coherence.{Names, bare_value, OneTree, OneTrees, OneTreeCases, OneTreePayload, OneTreeParams, OneTreeResult, OneTreeFunc, TypeCoheres, Coheres, AllCohere, any_resource, closed_off, inside_component, inward, outward, within}

-- ---- places set aside twice, and where names are changed

pub bare_twice : (t : ValueTree) → bare_value (bare_value t) ≡ bare_value t
bare_twice t = value_twice without_places without_places without_places (record { resource = λ d n. refl; place = λ d n. refl; mark = λ m. refl }) 0 t

pub bare_changed : (f g : Name → Name) (t : ValueTree) → value_by (changing f g) 0 (bare_value t) ≡ bare_value (value_by (changing f g) 0 t)
bare_changed f g t =
    let c : Change = record { resource = outside f; place = λ d n. None; mark = λ m. true } in
    value_twice (changing f g) without_places c (record { resource = λ d n. refl; place = λ d n. refl; mark = λ m. refl }) 0 t
    ∙ sym (value_twice without_places (changing f g) c (record { resource = λ d n. refl; place = λ d n. refl; mark = λ m. refl }) 0 t)

-- ---- names

abbrev pub bare_tree : (Name → Option ValueTree) → Name → Option ValueTree
bare_tree tree n = option_map bare_value (tree n)

-- the names whose types have no places
abbrev pub bared : Names → Names
bared names = record { resource = names.resource; tree = bare_tree names.tree }

record Bares (before after : Names) : Type 0 where
  resource : (r : Name) → before.resource r ≡ true → after.resource r ≡ true
  tree : (n : Name) (t : ValueTree) → before.tree n ≡ Some t → after.tree n ≡ Some (bare_value t)

pub map_some : {X Y : Type 0} (f : X → Y) (o : Option X) (y : Y) → option_map f o ≡ Some y → (x : X) × (o ≡ Some x) × (f x ≡ y)
map_some f None y h = absurd cc
map_some f (Some x) y h = (x, refl, cc)

bares : (names : Names) → Bares names (bared names)
bares names = record { resource = λ r h. h; tree = λ n t is. ap (option_map bare_value) is }

module _ (w : ℕ) (own : Name → Option ValueTree) (before after : Names) (k : Bares before after) where
  resource_within : (r : Name) → (within w (any_resource own) before).resource r ≡ true → (within w (any_resource (bare_tree own)) after).resource r ≡ true
  resource_within r h = by (nat_lt r.out w) h
    where
      by : (b : Bool) → cond b true (before.resource (outward w r)) ≡ true → cond b true (after.resource (outward w r)) ≡ true
      by true h = refl
      by false h = k.resource (outward w r) h

  tree_within : (n : Name) (t : ValueTree) → (within w (any_resource own) before).tree n ≡ Some t → (within w (any_resource (bare_tree own)) after).tree n ≡ Some (bare_value t)
  tree_within n t is = by (nat_lt n.out w) is
    where
      by : (b : Bool) → cond b (own n) (option_map (inward w) (before.tree (outward w n))) ≡ Some t → cond b (bare_tree own n) (option_map (inward w) (after.tree (outward w n))) ≡ Some (bare_value t)
      by true is = ap (option_map bare_value) is
      by false is =
          let u = map_some (inward w) (before.tree (outward w n)) t is in
          ap (option_map (inward w)) (k.tree (outward w n) u.0 u.1) ∙ ap Some (bare_changed (deeper w) (deeper w) u.0 ∙ ap bare_value u.2)

  bares_within : Bares (within w (any_resource own) before) (within w (any_resource (bare_tree own)) after)
  bares_within = record { resource = resource_within; tree = tree_within }

bares_component : (own : Name → Option ValueTree) (before after : Names) → Bares before after → Bares (inside_component own before) (inside_component (bare_tree own) after)
bares_component own before after k = bares_within 2 own (closed_off before) (closed_off after) (record { resource = λ r h. h; tree = k.tree })

-- ---- what coheres

module _ (before after : Names) (k : Bares before after) where
  stands : (n : Name) (t : ValueTree) → before.tree n ≡ Some (bare_value t) → after.tree n ≡ Some (bare_value t)
  stands n t is = k.tree n (bare_value t) is ∙ ap Some (bare_twice t)

  mutual
    value_bares : (t : ValueTree) → OneTree before t → OneTree after t
    value_bares (Primitive p) h = tt
    value_bares (TupleOf ts) h = values_bare ts h
    value_bares (RecordOf None fs) h = (tt, cases_bare fs h.1)
    value_bares (RecordOf (Some n) fs) h = (stands n (RecordOf (Some n) fs) h.0, cases_bare fs h.1)
    value_bares (VariantOf None cs) h = (tt, cases_bare cs h.1)
    value_bares (VariantOf (Some n) cs) h = (stands n (VariantOf (Some n) cs) h.0, cases_bare cs h.1)
    value_bares (ListOf t) h = value_bares t h
    value_bares (FlagsOf None ls) h = tt
    value_bares (FlagsOf (Some n) ls) h = stands n (FlagsOf (Some n) ls) h
    value_bares (EnumOf None ls) h = tt
    value_bares (EnumOf (Some n) ls) h = stands n (EnumOf (Some n) ls) h
    value_bares (OptionOf t) h = value_bares t h
    value_bares (ResultOf ok err) h = (payload_bares ok h.0, payload_bares err h.1)
    value_bares (Own r) h = k.resource r h
    value_bares (Borrow r) h = k.resource r h

    values_bare : (ts : ValueTrees) → OneTrees before ts → OneTrees after ts
    values_bare none h = tt
    values_bare (more t ts) h = (value_bares t h.0, values_bare ts h.1)

    cases_bare : (cs : Cases) → OneTreeCases before cs → OneTreeCases after cs
    cases_bare no_case h = tt
    cases_bare (labelled l p cs) h = (payload_bares p h.0, cases_bare cs h.1)

    payload_bares : (p : Payload) → OneTreePayload before p → OneTreePayload after p
    payload_bares absent h = tt
    payload_bares (present t) h = value_bares t h

  params_bare : (ps : List (List ℕ × ValueTree)) → OneTreeParams before ps → OneTreeParams after ps
  params_bare [] h = tt
  params_bare (p ∷ ps) h = (value_bares p.1 h.0, params_bare ps h.1)

  result_bares : (r : Option ValueTree) → OneTreeResult before r → OneTreeResult after r
  result_bares None h = tt
  result_bares (Some t) h = value_bares t h

  func_bares : (f : FuncTree) → OneTreeFunc before f → OneTreeFunc after f
  func_bares f h = (params_bare f.params h.0, result_bares f.result h.1)

mutual
  type_bares : (before after : Names) → Bares before after → (t : TypeShapeTree) → TypeCoheres before t → TypeCoheres after t
  type_bares before after k (Value t) h = value_bares before after k t h
  type_bares before after k (Resource r) h = k.resource r h
  type_bares before after k (Func f) h = func_bares before after k f h
  type_bares before after k (Instance es) h = (bare_tree h.0, entries_bare _ _ (bares_within 1 h.0 before after k) es h.1)
  type_bares before after k (Component is es) h =
      (bare_tree h.0, entries_bare _ _ (bares_component h.0 before after k) is h.1, entries_bare _ _ (bares_component h.0 before after k) es h.2)

  entity_bares : (before after : Names) → Bares before after → (e : EntityTree) → Coheres before e → Coheres after e
  entity_bares before after k (IsType t) h = type_bares before after k t h
  entity_bares before after k (IsFunc f) h = func_bares before after k f h
  entity_bares before after k (IsInstance es) h = entries_bare before after k es h
  entity_bares before after k (IsComponent is es) h =
      (bare_tree h.0, entries_bare _ _ (bares_component h.0 before after k) is h.1, entries_bare _ _ (bares_component h.0 before after k) es h.2)
  entity_bares before after k (IsModule m) h = tt
  entity_bares before after k IsOwnModule h = tt

  entries_bare : (before after : Names) → Bares before after → (es : Entries) → AllCohere before es → AllCohere after es
  entries_bare before after k no_entry h = tt
  entries_bare before after k (entry name e mark es) h = (entity_bares before after k e h.0, entries_bare before after k es h.1)

pub coheres_bared : (names : Names) (e : EntityTree) → Coheres names e → Coheres (bared names) e
coheres_bared names e h = entity_bares names (bared names) (bares names) e h
