-- What coheres with names does so where they mean less, if what it mentions still means the same.
use Rattle.std.proofs.Common.{◌≡◌, ℕ, suc, ◌+◌, ◌-◌, ◌≤◌, Bool, true, false, cond, List, [], ◌∷◌, Option, Some, None, refl, sym, ap, subst, ◌∙◌, arith}
use Rattle.std.specs.Prelude.{◌==◌, flat_map, is_some, nat_lt, option_map, option_to_list}
use Rattle.std.specs.List.{AllByRecursion}
use Rattle.std.proofs.lemmas.Bool.{eqb-true}
use Rattle.comp_entity.specs.Entity.{Name, brought, ValueTree, Primitive, TupleOf, RecordOf, VariantOf, ListOf, FlagsOf, EnumOf, OptionOf, ResultOf, Own, Borrow, ValueTrees, none, more, Cases, no_case, labelled, Payload, absent, present, FuncTree, TypeShapeTree, Value, Resource, Func, Instance, Component, EntityTree, IsType, IsFunc, IsInstance, IsComponent, IsModule, IsOwnModule, Entries, no_entry, entry, ShapeTree}
use Rattle.comp_entity.specs.Names.{Mention, OfResource, OfPlace, in_value, in_values, in_cases, in_payload, in_func, in_type, in_entity, in_entries}
use Rattle.comp_entity.specs.Views.{entries_of}
use Rattle.comp_coherence.specs.Coherence.{Names, EachCoheres, OneTree, OneTrees, OneTreeCases, OneTreePayload, OneTreeParams, OneTreeResult, OneTreeFunc, TypeCoheres, Coheres, AllCohere, any_resource, closed_off, inside_component, inside_instances, inward, nowhere, outward, within}
use Rattle.compose_left.specs.declared.spots.Spot.{Spot}
use Rattle.compose_left.specs.Origins.{brought_at}
use Rattle.compose_left.specs.Spots.{named_type}
use Rattle.compose_origins.specs.Named.{BringsAll, HasOwnNames, HaveOwnNames, ImportsBring, BringsMention, IsWellNamed}
use Rattle.compose_origins.proofs.Paths.{back, front, map_some, near}

module _ (P : Name → Type 0) where
  -- of a place around the entity something is known
  abbrev Asked : ℕ × Mention → Type 0
  Asked (d, OfResource r) = Unit {0}
  Asked (d, OfPlace n) = d ≤ n.out → P (outward d n)

  record Keeps (d : ℕ) (before after : Names) : Type 0 where
    resource : (r : Name) → before.resource r ≡ true → after.resource r ≡ true
    tree : (n : Name) (t : ValueTree) → Asked (d, OfPlace n) → before.tree n ≡ Some t → after.tree n ≡ Some t

  asked_out : (w d : ℕ) (n : Name) → nat_lt n.out w ≡ false → Asked (w + d, OfPlace n) → Asked (d, OfPlace (outward w n))
  asked_out w d n far asked less =
      let around : w ≤ n.out = grind arith in
      let same : n.out - (w + d) ≡ n.out - w - d = omega (arith, around) in
      subst (λ out. P (record { out = out; number = n.number })) same (asked (omega (arith, around, less)))

  module _ (w d : ℕ) (own before after : Names) (k : Keeps d before after) where
    resource_within : (r : Name) → (within w own before).resource r ≡ true → (within w own after).resource r ≡ true
    resource_within r h = by (nat_lt r.out w) h
      where
        by : (b : Bool) → cond b (own.resource r) (before.resource (outward w r)) ≡ true → cond b (own.resource r) (after.resource (outward w r)) ≡ true
        by true h = h
        by false h = k.resource (outward w r) h

    tree_within : (n : Name) (t : ValueTree) → Asked (w + d, OfPlace n) → (within w own before).tree n ≡ Some t → (within w own after).tree n ≡ Some t
    tree_within n t asked is = by (nat_lt n.out w) refl is
      where
        by : (b : Bool) → nat_lt n.out w ≡ b → cond b (own.tree n) (option_map (inward w) (before.tree (outward w n))) ≡ Some t → cond b (own.tree n) (option_map (inward w) (after.tree (outward w n))) ≡ Some t
        by true lt is = is
        by false far is =
            let u = map_some (inward w) (before.tree (outward w n)) t is in
            ap (option_map (inward w)) (k.tree (outward w n) u.0 (asked_out w d n far asked) u.1) ∙ ap Some u.2

    keeps_within : (e : ℕ) → e ≡ w + d → Keeps e (within w own before) (within w own after)
    keeps_within e is = subst (λ e. Keeps e (within w own before) (within w own after)) (sym is) (record { resource = resource_within; tree = tree_within })

  keeps_instances : (d : ℕ) (own : Name → Option ValueTree) (before after : Names) → Keeps d before after → Keeps (suc d) (inside_instances own before) (inside_instances own after)
  keeps_instances d own before after k = keeps_within 1 d (any_resource own) before after k (suc d) (omega arith)

  keeps_component : (d : ℕ) (own : Name → Option ValueTree) (before after : Names) → Keeps d before after → Keeps (suc (suc d)) (inside_component own before) (inside_component own after)
  keeps_component d own before after k =
      keeps_within 2 d (any_resource own) (closed_off before) (closed_off after) (record { resource = λ r h. h; tree = k.tree }) (suc (suc d)) (omega arith)

  module _ (d : ℕ) (before after : Names) (k : Keeps d before after) where
    mutual
      value_kept : (t : ValueTree) → OneTree before t → AllByRecursion Asked (in_value d t) → OneTree after t
      value_kept (Primitive p) h m = tt
      value_kept (TupleOf ts) h m = values_kept ts h m
      value_kept (RecordOf None fs) h m = (tt, cases_kept fs h.1 m)
      value_kept (RecordOf (Some n) fs) h m = (k.tree n _ m.0 h.0, cases_kept fs h.1 m.1)
      value_kept (VariantOf None cs) h m = (tt, cases_kept cs h.1 m)
      value_kept (VariantOf (Some n) cs) h m = (k.tree n _ m.0 h.0, cases_kept cs h.1 m.1)
      value_kept (ListOf t) h m = value_kept t h m
      value_kept (FlagsOf None ls) h m = tt
      value_kept (FlagsOf (Some n) ls) h m = k.tree n _ m.0 h
      value_kept (EnumOf None ls) h m = tt
      value_kept (EnumOf (Some n) ls) h m = k.tree n _ m.0 h
      value_kept (OptionOf t) h m = value_kept t h m
      value_kept (ResultOf ok err) h m = (payload_kept ok h.0 (front Asked (in_payload d ok) (in_payload d err) m), payload_kept err h.1 (back Asked (in_payload d ok) (in_payload d err) m))
      value_kept (Own r) h m = k.resource r h
      value_kept (Borrow r) h m = k.resource r h

      values_kept : (ts : ValueTrees) → OneTrees before ts → AllByRecursion Asked (in_values d ts) → OneTrees after ts
      values_kept none h m = tt
      values_kept (more t ts) h m = (value_kept t h.0 (front Asked (in_value d t) (in_values d ts) m), values_kept ts h.1 (back Asked (in_value d t) (in_values d ts) m))

      cases_kept : (cs : Cases) → OneTreeCases before cs → AllByRecursion Asked (in_cases d cs) → OneTreeCases after cs
      cases_kept no_case h m = tt
      cases_kept (labelled l p cs) h m = (payload_kept p h.0 (front Asked (in_payload d p) (in_cases d cs) m), cases_kept cs h.1 (back Asked (in_payload d p) (in_cases d cs) m))

      payload_kept : (p : Payload) → OneTreePayload before p → AllByRecursion Asked (in_payload d p) → OneTreePayload after p
      payload_kept absent h m = tt
      payload_kept (present t) h m = value_kept t h m

    params_kept : (ps : List (List ℕ × ValueTree)) → OneTreeParams before ps → AllByRecursion Asked (flat_map (λ p. in_value d p.1) ps) → OneTreeParams after ps
    params_kept [] h m = tt
    params_kept (p ∷ ps) h m =
        (value_kept p.1 h.0 (front Asked (in_value d p.1) (flat_map (λ p. in_value d p.1) ps) m), params_kept ps h.1 (back Asked (in_value d p.1) (flat_map (λ p. in_value d p.1) ps) m))

    result_kept : (r : Option ValueTree) → OneTreeResult before r → AllByRecursion Asked (flat_map (in_value d) (option_to_list r)) → OneTreeResult after r
    result_kept None h m = tt
    result_kept (Some t) h m = value_kept t h (front Asked (in_value d t) [] m)

    func_kept : (f : FuncTree) → OneTreeFunc before f → AllByRecursion Asked (in_func d f) → OneTreeFunc after f
    func_kept f h m = (
      params_kept f.params h.0 (front Asked (flat_map (λ p. in_value d p.1) f.params) (flat_map (in_value d) (option_to_list f.result)) m),
      result_kept f.result h.1 (back Asked (flat_map (λ p. in_value d p.1) f.params) (flat_map (in_value d) (option_to_list f.result)) m),
    )

  mutual
    type_kept : (d : ℕ) (before after : Names) → Keeps d before after → (t : TypeShapeTree) → TypeCoheres before t → AllByRecursion Asked (in_type d t) → TypeCoheres after t
    type_kept d before after k (Value t) h m = value_kept d before after k t h m
    type_kept d before after k (Resource r) h m = k.resource r h
    type_kept d before after k (Func f) h m = func_kept d before after k f h m
    type_kept d before after k (Instance es) h m = (h.0, entries_kept (suc d) _ _ (keeps_instances d h.0 before after k) es h.1 m)
    type_kept d before after k (Component is es) h m = (
      h.0,
      entries_kept (suc (suc d)) _ _ (keeps_component d h.0 before after k) is h.1 (front Asked (in_entries (suc (suc d)) is) (in_entries (suc (suc d)) es) m),
      entries_kept (suc (suc d)) _ _ (keeps_component d h.0 before after k) es h.2 (back Asked (in_entries (suc (suc d)) is) (in_entries (suc (suc d)) es) m),
    )

    entity_kept : (d : ℕ) (before after : Names) → Keeps d before after → (e : EntityTree) → Coheres before e → AllByRecursion Asked (in_entity d e) → Coheres after e
    entity_kept d before after k (IsType t) h m = type_kept d before after k t h m
    entity_kept d before after k (IsFunc f) h m = func_kept d before after k f h m
    entity_kept d before after k (IsInstance es) h m = entries_kept d before after k es h m
    entity_kept d before after k (IsComponent is es) h m = (
      h.0,
      entries_kept (suc (suc d)) _ _ (keeps_component d h.0 before after k) is h.1 (front Asked (in_entries (suc (suc d)) is) (in_entries (suc (suc d)) es) m),
      entries_kept (suc (suc d)) _ _ (keeps_component d h.0 before after k) es h.2 (back Asked (in_entries (suc (suc d)) is) (in_entries (suc (suc d)) es) m),
    )
    entity_kept d before after k (IsModule s) h m = tt
    entity_kept d before after k IsOwnModule h m = tt

    entries_kept : (d : ℕ) (before after : Names) → Keeps d before after → (es : Entries) → AllCohere before es → AllByRecursion Asked (in_entries d es) → AllCohere after es
    entries_kept d before after k no_entry h m = tt
    entries_kept d before after k (entry name e mark es) h m =
        (entity_kept d before after k e h.0 (front Asked (in_entity d e) (in_entries d es) m), entries_kept d before after k es h.1 (back Asked (in_entity d e) (in_entries d es) m))

-- ---- shapes

-- The places of a shape stand for these types: it coheres with them, what its imports are said to bring they do bring,
-- and names differ.
pub record StandFor (s : ShapeTree) (tree : Name → Option ValueTree) : Type 0 where
  pub imports : EachCoheres (inside_component tree nowhere) s.imports
  pub exports : EachCoheres (inside_component tree nowhere) s.exports
  pub brings : (n : ℕ) (t : ValueTree) → tree (brought n) ≡ Some t → ImportsBring s (named_type (brought n))
  pub apart_within : AllByRecursion (λ (e : List ℕ × EntityTree). HasOwnNames e.1) s.imports
  pub apart : HaveOwnNames (entries_of s.exports)

-- what is said to be brought, and is not, stands for nothing
abbrev pub narrowed : ShapeTree → (Name → Option ValueTree) → Name → Option ValueTree
narrowed s tree n = cond (n.out == 1) (cond (is_some (brought_at s (named_type n))) (tree n) None) (tree n)

module _ (s : ShapeTree) (tree : Name → Option ValueTree) where
  abbrev Brings : Name → Type 0
  Brings n = n.out ≡ 1 → ImportsBring s (named_type n)

  asked : (m : ℕ × Mention) → BringsMention s m → Asked Brings m
  asked (d, OfResource r) h = tt
  asked (d, OfPlace n) h = λ less is.
      (let whole : n.out ≡ suc d = omega (arith, less, is) in
      subst (λ out. ImportsBring s (named_type (record { out = out; number = n.number }))) (sym is) (h whole))

  all_asked : (ms : List (ℕ × Mention)) → AllByRecursion (BringsMention s) ms → AllByRecursion (Asked Brings) ms
  all_asked [] h = tt
  all_asked (m ∷ ms) h = (asked m h.0, all_asked ms h.1)

  kept_own : (n : Name) (t : ValueTree) → Brings n → tree n ≡ Some t → narrowed s tree n ≡ Some t
  kept_own n t brings is = by (n.out == 1) refl
    where
      by : (b : Bool) → (n.out == 1) ≡ b → cond b (cond (is_some (brought_at s (named_type n))) (tree n) None) (tree n) ≡ Some t
      by true one = (let x = brings (eqb-true n.out 1 one) in ap (λ (o : Option Spot). cond (is_some o) (tree n) None) x.1 ∙ is)
      by false other = is

  keeps : Keeps Brings 0 (inside_component tree nowhere) (inside_component (narrowed s tree) nowhere)
  keeps = record {
    resource = λ r h. h;
    tree = λ n t asks is.
        (let own = near tree n t is in
        let lt : nat_lt n.out 2 ≡ true = (let low = own.0 in grind arith) in
        let out : n.out - 0 ≡ n.out = omega arith in
        let brings : Brings n = subst (λ out. Brings (record { out = out; number = n.number })) out (asks (omega arith)) in
        ap (λ b. cond b (narrowed s tree n) None) lt ∙ kept_own n t brings own.1);
  }

  each_kept : (es : List (List ℕ × EntityTree)) → EachCoheres (inside_component tree nowhere) es → BringsAll s es → EachCoheres (inside_component (narrowed s tree) nowhere) es
  each_kept [] h m = tt
  each_kept (e ∷ es) h m = (
    entity_kept Brings 0 (inside_component tree nowhere) (inside_component (narrowed s tree) nowhere) keeps e.1 h.0 (all_asked (in_entity 0 e.1) m.0),
    each_kept es h.1 m.1,
  )

  brought_there : (n : ℕ) (t : ValueTree) → narrowed s tree (brought n) ≡ Some t → ImportsBring s (named_type (brought n))
  brought_there n t is = by (brought_at s (named_type (brought n))) refl is
    where
      by : (o : Option Spot) → brought_at s (named_type (brought n)) ≡ o → cond (is_some o) (tree (brought n)) None ≡ Some t → ImportsBring s (named_type (brought n))
      by None missing is = absurd cc
      by (Some x) there is = (x, there)

pub own_tree : (s : ShapeTree) → IsWellNamed s → Name → Option ValueTree
own_tree s h n = narrowed s h.coherent.tree n

pub stand_for : (s : ShapeTree) (h : IsWellNamed s) → StandFor s (own_tree s h)
unfolding own_tree
stand_for s h = record {
  imports = each_kept s h.coherent.tree s.imports h.coherent.imports h.imports_brought;
  exports = each_kept s h.coherent.tree s.exports h.coherent.exports h.exports_brought;
  brings = brought_there s h.coherent.tree;
  apart_within = h.imports_apart;
  apart = h.exports_apart;
}
