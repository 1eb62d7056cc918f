-- Where each name stands for one type, two mentions of one name are one type.
use Rattle.std.proofs.Common.{◌≡◌, ℕ, zero, suc, ◌+◌, ◌-◌, ◌≤◌, ◌<◌, true, List, [], ◌∷◌, ◌++◌, Option, Some, None, sym, ap, subst, ◌∙◌, arith}
use Rattle.std.specs.Prelude.{nat_lt, flat_map, option_to_list}
use Rattle.std.specs.List.{AllByRecursion, Contains}
use Rattle.comp_entity.specs.Entity.{Name, ValueTree, Primitive, TupleOf, RecordOf, VariantOf, ListOf, FlagsOf, EnumOf, OptionOf, ResultOf, Own, Borrow, ValueTrees, none, more, Cases, no_case, labelled, Payload, absent, present, FuncTree, TypeShapeTree, Value, Resource, Func, Instance, Component, EntityTree, IsType, IsFunc, IsInstance, IsComponent, IsModule, IsOwnModule, Entries, no_entry, entry, ShapeTree}
use Rattle.comp_entity.specs.Names.{deeper}
use Rattle.comp_coherence.specs.Coherence.{closed_off, Names, bare_value, inward, outward, within, any_resource, nowhere, OneTree, OneTrees, OneTreeCases, OneTreePayload, OneTreeParams, OneTreeResult, OneTreeFunc, TypeCoheres, Coheres, AllCohere, EachCoheres, IsCoherent}
use Rattle.comp_coherence.specs.NamedTypes.{NamedType, named_in_value, named_in_values, named_in_cases, named_in_payload, named_in_func, named_in_type, named_in_entity, named_in_entries, named_in, NamesAgree}
use Rattle.comp_coherence.proofs.Changes.{joined, by_depth, tree_far, some_of}
use Rattle.comp_coherence.proofs.Aliases.{inward_here, inward_twice}

contained : {X : Type 0} (P : X → Type 0) (xs : List X) (x : X) → AllByRecursion P xs → Contains xs x → P x
contained P [] x h c = absurd (omega (arith, c.1))
contained P (y ∷ xs) x h (zero, lt, is) = subst P is h.0
contained P (y ∷ xs) x h (suc k, lt, is) = contained P xs x h.1 (k, omega (arith, lt), is)

module _ (top : Names) where
  -- so deep, what is of the outermost scope stands for what it stands for there
  record Below (d : ℕ) (names : Names) : Type 0 where
    pub tree : (n : Name) (t : ValueTree) → names.tree n ≡ Some t → d ≤ n.out → (u : ValueTree) × (top.tree (outward d n) ≡ Some u) × (t ≡ inward d u)

  first_below : Below 0 top
  first_below = record {
    tree = λ n t is le.
        (let same : n.out - 0 ≡ n.out = omega arith in (t, ap (λ o. top.tree (record { out = o; number = n.number })) same ∙ is, sym (inward_here t)));
  }

  module _ (w d : ℕ) (own names : Names) (k : Below d names) where
    abbrev BelowAt : Name → Type 0
    BelowAt n = (t : ValueTree) → (within w own names).tree n ≡ Some t → w + d ≤ n.out → (u : ValueTree) × (top.tree (outward (w + d) n) ≡ Some u) × (t ≡ inward (w + d) u)

    near_below : (n : Name) → nat_lt n.out w ≡ true → BelowAt n
    near_below n lt t is le = let in_scope : n.out < w = grind arith in absurd (omega arith)

    far_below : (m : Name) → BelowAt (deeper w m)
    far_below m t is le =
        let u = some_of (inward w) (names.tree m) t (sym (tree_far w own names m) ∙ is) in
        let v = k.tree m u.0 u.1 (omega arith) in
        let back : m.out + w - (w + d) ≡ m.out - d = omega arith in
        (v.0, ap (λ o. top.tree (record { out = o; number = m.number })) back ∙ v.1, sym u.2 ∙ ap (inward w) v.2 ∙ inward_twice w d v.0)

    within_below : Below (w + d) (within w own names)
    within_below = record { tree = by_depth BelowAt w near_below far_below }

  below_at : (w d e : ℕ) → e ≡ w + d → (own names : Names) → Below d names → Below e (within w own names)
  below_at w d e is own names k = subst (λ e. Below e (within w own names)) (sym is) (within_below w d own names k)

  -- what a mention of the outermost scope is of
  abbrev Stood : NamedType → Type 0
  Stood m = m.depth ≤ m.place.out → (u : ValueTree) × (top.tree (outward m.depth m.place) ≡ Some u) × (bare_value m.tree ≡ inward m.depth u)

  module _ (d : ℕ) (names : Names) (k : Below d names) where
    mutual
      value_named : (t : ValueTree) → OneTree names t → AllByRecursion Stood (named_in_value d t)
      value_named (Primitive p) h = tt
      value_named (TupleOf ts) h = values_named ts h
      value_named (RecordOf None fs) h = cases_named fs h.1
      value_named (RecordOf (Some n) fs) h = (k.tree n (bare_value (RecordOf (Some n) fs)) h.0, cases_named fs h.1)
      value_named (VariantOf None cs) h = cases_named cs h.1
      value_named (VariantOf (Some n) cs) h = (k.tree n (bare_value (VariantOf (Some n) cs)) h.0, cases_named cs h.1)
      value_named (ListOf t) h = value_named t h
      value_named (FlagsOf None ls) h = tt
      value_named (FlagsOf (Some n) ls) h = (k.tree n (bare_value (FlagsOf (Some n) ls)) h, tt)
      value_named (EnumOf None ls) h = tt
      value_named (EnumOf (Some n) ls) h = (k.tree n (bare_value (EnumOf (Some n) ls)) h, tt)
      value_named (OptionOf t) h = value_named t h
      value_named (ResultOf ok err) h = joined Stood (named_in_payload d ok) (named_in_payload d err) (payload_named ok h.0) (payload_named err h.1)
      value_named (Own r) h = tt
      value_named (Borrow r) h = tt

      values_named : (ts : ValueTrees) → OneTrees names ts → AllByRecursion Stood (named_in_values d ts)
      values_named none h = tt
      values_named (more t ts) h = joined Stood (named_in_value d t) (named_in_values d ts) (value_named t h.0) (values_named ts h.1)

      cases_named : (cs : Cases) → OneTreeCases names cs → AllByRecursion Stood (named_in_cases d cs)
      cases_named no_case h = tt
      cases_named (labelled l p cs) h = joined Stood (named_in_payload d p) (named_in_cases d cs) (payload_named p h.0) (cases_named cs h.1)

      payload_named : (p : Payload) → OneTreePayload names p → AllByRecursion Stood (named_in_payload d p)
      payload_named absent h = tt
      payload_named (present t) h = value_named t h

    params_named : (ps : List (List ℕ × ValueTree)) → OneTreeParams names ps → AllByRecursion Stood (flat_map (λ p. named_in_value d p.1) ps)
    params_named [] h = tt
    params_named (p ∷ ps) h = joined Stood (named_in_value d p.1) (flat_map (λ p. named_in_value d p.1) ps) (value_named p.1 h.0) (params_named ps h.1)

    result_named : (r : Option ValueTree) → OneTreeResult names r → AllByRecursion Stood (flat_map (named_in_value d) (option_to_list r))
    result_named None h = tt
    result_named (Some t) h = joined Stood (named_in_value d t) [] (value_named t h) tt

    func_named : (f : FuncTree) → OneTreeFunc names f → AllByRecursion Stood (named_in_func d f)
    func_named f h = joined Stood (flat_map (λ p. named_in_value d p.1) f.params) _ (params_named f.params h.0) (result_named f.result h.1)

  mutual
    type_named : (d : ℕ) (names : Names) → Below d names → (t : TypeShapeTree) → TypeCoheres names t → AllByRecursion Stood (named_in_type d t)
    type_named d names k (Value t) h = value_named d names k t h
    type_named d names k (Resource r) h = tt
    type_named d names k (Func f) h = func_named d names k f h
    type_named d names k (Instance es) h = entries_named (suc d) _ (below_at 1 d (suc d) (omega arith) (any_resource h.0) names k) es h.1
    type_named d names k (Component is es) h =
        let inner = below_at 2 d (suc (suc d)) (omega arith) (any_resource h.0) (closed_off names) (record { tree = k.tree }) in
        joined Stood (named_in_entries (suc (suc d)) is) (named_in_entries (suc (suc d)) es) (entries_named (suc (suc d)) _ inner is h.1) (entries_named (suc (suc d)) _ inner es h.2)

    entity_named : (d : ℕ) (names : Names) → Below d names → (e : EntityTree) → Coheres names e → AllByRecursion Stood (named_in_entity d e)
    entity_named d names k (IsType t) h = type_named d names k t h
    entity_named d names k (IsFunc f) h = func_named d names k f h
    entity_named d names k (IsInstance es) h = entries_named d names k es h
    entity_named d names k (IsComponent is es) h =
        let inner = below_at 2 d (suc (suc d)) (omega arith) (any_resource h.0) (closed_off names) (record { tree = k.tree }) in
        joined Stood (named_in_entries (suc (suc d)) is) (named_in_entries (suc (suc d)) es) (entries_named (suc (suc d)) _ inner is h.1) (entries_named (suc (suc d)) _ inner es h.2)
    entity_named d names k (IsModule m) h = tt
    entity_named d names k IsOwnModule h = tt

    entries_named : (d : ℕ) (names : Names) → Below d names → (es : Entries) → AllCohere names es → AllByRecursion Stood (named_in_entries d es)
    entries_named d names k no_entry h = tt
    entries_named d names k (entry name e mark es) h = joined Stood (named_in_entity d e) (named_in_entries d es) (entity_named d names k e h.0) (entries_named d names k es h.1)

  each_named : (es : List (List ℕ × EntityTree)) → EachCoheres top es → AllByRecursion Stood (flat_map (λ e. named_in_entity 0 e.1) es)
  each_named [] h = tt
  each_named (e ∷ es) h = joined Stood (named_in_entity 0 e.1) (flat_map (λ e. named_in_entity 0 e.1) es) (entity_named 0 top first_below e.1 h.0) (each_named es h.1)

pub names_agree : (s : ShapeTree) → IsCoherent s → NamesAgree s
names_agree s h one other has_one has_other one_out other_out same =
    let top : Names = within 2 (any_resource h.tree) nowhere in
    let all = each_named top (s.imports ++ s.exports) (joined (λ (e : List ℕ × EntityTree). Coheres top e.1) s.imports s.exports h.imports h.exports) in
    let a = contained (Stood top) (named_in s) one all has_one one_out in
    let b = contained (Stood top) (named_in s) other all has_other other_out in
    let is : a.0 ≡ b.0 = (let both : Some a.0 ≡ Some b.0 = sym a.1 ∙ ap top.tree same ∙ b.1 in cc) in
    (a.0, a.2, b.2 ∙ ap (inward other.depth) (sym is))
