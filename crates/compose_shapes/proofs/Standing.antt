-- What stands in the index spaces of a scope, and what is described there.
use Rattle.std.proofs.Common.{◌≡◌, ◌⊎◌, inl, inr, ◌-◌, ℕ, zero, suc, Bool, true, false, List, [], ◌∷◌, ◌++◌, None, refl, sym, ap, subst, ◌∙◌, arith, Some}
use Rattle.std.specs.Prelude.{IfOk, ◌==◌, if◌then◌else◌}
use Rattle.std.specs.List.{AllByRecursion}
use Rattle.std.proofs.lemmas.List.{append_assoc}
use Rattle.comp_format.specs.declared.types.CoreSort.TheVariants as core
use Rattle.comp_format.specs.declared.types.Sort.{Sort}
use Rattle.comp_format.specs.declared.types.Sort.TheVariants as sort
use Rattle.comp_format.specs.declared.types.TypeRef.{TypeRef}
use Rattle.comp_format.specs.declared.types.TypeRef.TheVariants as description
use Rattle.comp_entity.specs.Bounds.{Bounds}
use Rattle.comp_entity.specs.Entity.{Name, Primitive, TupleOf, RecordOf, VariantOf, ListOf, FlagsOf, EnumOf, OptionOf, ResultOf, Own, Borrow, TypeShapeTree, Value, Resource, Func, Instance, Component, EntityTree, IsType, IsFunc, IsInstance, IsComponent, IsModule, IsOwnModule, Entries, no_entry, entry}
use Rattle.comp_entity.specs.Names.{Counts, OfResource, OfPlace, in_cases, in_entity, in_entries}
use Rattle.comp_scope.specs.CoreScopes.{as_module}
use Rattle.comp_scope.specs.Descriptions.{NewNames, opened, named_by, Described, described_type, described_func, described_component, described_instance, described}
use Rattle.comp_scope.specs.Spaces.{CoreCounts, KnownCoreType, Standing, Spaces, at_index, standing, placed, added, with_core_type}
use Rattle.compose_left.specs.declared.spots.Thing.{Thing}
use Rattle.compose_left.specs.Spots.{named_type, resource}
use Rattle.compose_needs.specs.Mentioned.{has, mentioned, outward, outwards}
use Rattle.compose_known.specs.Placed.{HasPlaces}
use Rattle.compose_shapes.proofs.Known.{Scope, scope, is_own, IsKnown, Good, at_resource, at_named, plain_by, at_once, entries_changed, good_later}
use Rattle.compose_shapes.proofs.Mentions.{called, Further, entries_in, outwards-append}
use Rattle.compose_shapes.proofs.Things.{joined, weaker, has_first, has_then, has_itself}
use Rattle.compose_shapes.proofs.Tied.{IfOwn, Tied, AllTied, Ordered, TypeOrdered, is_near, names_of, names_among, Asks, entries_tied, entries_ordered, entries_placed}
use Rattle.compose_shapes.proofs.Values.{Anything, anything, index_ok, kept_ok, then_ok, together}

-- ---- index spaces

abbrev pub StandingGood : List Scope → Standing → Type 0
StandingGood ss st = Good ss st.0

abbrev pub AllStand : List Scope → List Standing → Type 0
AllStand ss xs = AllByRecursion (StandingGood ss) xs

-- all that stands in a scope mentions what may be mentioned there
pub record SpacesGood (c : Bool) (seen : List Thing) (ss : List Scope) (s : Spaces) : Type 0 where
  pub closed : s.is_closed ≡ c
  pub modules : AllStand (scope c seen ∷ ss) s.modules
  pub funcs : AllStand (scope c seen ∷ ss) s.funcs
  pub types : AllStand (scope c seen ∷ ss) s.types
  pub components : AllStand (scope c seen ∷ ss) s.components
  pub instances : AllStand (scope c seen ∷ ss) s.instances

module _ (c : Bool) (seen : List Thing) (ss : List Scope) where
  pub spaces_later : (more : List Thing) (s : Spaces) → SpacesGood c seen ss s → SpacesGood c (seen ++ more) ss s
  spaces_later more s h = record {
    closed = h.closed;
    modules = each s.modules h.modules;
    funcs = each s.funcs h.funcs;
    types = each s.types h.types;
    components = each s.components h.components;
    instances = each s.instances h.instances;
  }
    where
      each : (xs : List Standing) → AllStand (scope c seen ∷ ss) xs → AllStand (scope c (seen ++ more) ∷ ss) xs
      each xs k =
          weaker (StandingGood (scope c seen ∷ ss)) (StandingGood (scope c (seen ++ more) ∷ ss))
          (λ st l. good_later c seen more ss st.0 l) xs k

  pub recounted : (s : Spaces) (core : CoreCounts) (brought made : Counts) → SpacesGood c seen ss s
      → SpacesGood c seen ss (record s { core = core; brought = brought; made = made })
  recounted s core brought made h =
      record {
        closed = h.closed;
        modules = h.modules;
        funcs = h.funcs;
        types = h.types;
        components = h.components;
        instances = h.instances;
      }

  pub with_core : (s : Spaces) (t : KnownCoreType) → SpacesGood c seen ss s → SpacesGood c seen ss (with_core_type s t)
  with_core s t h =
      record {
        closed = h.closed;
        modules = h.modules;
        funcs = h.funcs;
        types = h.types;
        components = h.components;
        instances = h.instances;
      }

  pub with_module : (s : Spaces) (st : Standing) → SpacesGood c seen ss s → StandingGood (scope c seen ∷ ss) st
      → SpacesGood c seen ss (record s { modules = s.modules ++ st ∷ [] })
  with_module s st h k =
      record {
        closed = h.closed;
        modules = joined (StandingGood (scope c seen ∷ ss)) s.modules (st ∷ []) h.modules
            (k, tt);
        funcs = h.funcs;
        types = h.types;
        components = h.components;
        instances = h.instances;
      }

  placed_good : (s : Spaces) (e : EntityTree) (named : Bool) → SpacesGood c seen ss s → Good (scope c seen ∷ ss) e
      → SpacesGood c seen ss (placed s e named)
  placed_good s (IsType t) named h k =
      record {
        closed = h.closed;
        modules = h.modules;
        funcs = h.funcs;
        types = joined (StandingGood (scope c seen ∷ ss)) s.types ((IsType t, named) ∷ []) h.types (k, tt);
        components = h.components;
        instances = h.instances;
      }
  placed_good s (IsFunc f) named h k =
      record {
        closed = h.closed;
        modules = h.modules;
        funcs = joined (StandingGood (scope c seen ∷ ss)) s.funcs ((IsFunc f, named) ∷ []) h.funcs (k, tt);
        types = h.types;
        components = h.components;
        instances = h.instances;
      }
  placed_good s (IsInstance es) named h k =
      record {
        closed = h.closed;
        modules = h.modules;
        funcs = h.funcs;
        types = h.types;
        components = h.components;
        instances = joined (StandingGood (scope c seen ∷ ss)) s.instances ((IsInstance es, named) ∷ []) h.instances
            (k, tt);
      }
  placed_good s (IsComponent is es) named h k =
      record {
        closed = h.closed;
        modules = h.modules;
        funcs = h.funcs;
        types = h.types;
        components = joined (StandingGood (scope c seen ∷ ss)) s.components ((IsComponent is es, named) ∷ []) h.components
            (k, tt);
        instances = h.instances;
      }
  placed_good s (IsModule m) named h k = with_module s (IsModule m, named) h k
  placed_good s IsOwnModule named h k = with_module s (IsOwnModule, named) h k

  pub added_good : (b : Bounds) (s : Spaces) (e : EntityTree) (named : Bool) → SpacesGood c seen ss s
      → Good (scope c seen ∷ ss) e → IfOk (added b s e named) (SpacesGood c seen ss)
  unfolding added
  added_good b s e named h k = kept_ok (SpacesGood c seen ss) b e (placed s e named) (placed_good s e named h k)

  pub standing_good : (s : Spaces) (kind : Sort) (i : ℕ) → SpacesGood c seen ss s
      → IfOk (standing s kind i) (StandingGood (scope c seen ∷ ss))
  standing_good s (sort.Core core.Module) i h = index_ok (StandingGood (scope c seen ∷ ss)) s.modules i h.modules
  standing_good s (sort.Core core.Func) i h = tt
  standing_good s (sort.Core core.Table) i h = tt
  standing_good s (sort.Core core.Memory) i h = tt
  standing_good s (sort.Core core.Global) i h = tt
  standing_good s (sort.Core core.Ty) i h = tt
  standing_good s (sort.Core core.Instance) i h = tt
  standing_good s sort.Func i h = index_ok (StandingGood (scope c seen ∷ ss)) s.funcs i h.funcs
  standing_good s sort.Ty i h = index_ok (StandingGood (scope c seen ∷ ss)) s.types i h.types
  standing_good s sort.Component i h = index_ok (StandingGood (scope c seen ∷ ss)) s.components i h.components
  standing_good s sort.Instance i h = index_ok (StandingGood (scope c seen ∷ ss)) s.instances i h.instances

-- ---- what is tied is named at last

module _ (own : Thing → Bool) where
  mutual
    pub tied_named : (seen : List Thing) (e : EntityTree) → Tied own seen e
        → AllByRecursion (IfOwn own (seen ++ names_of e)) (mentioned e)
    tied_named seen (IsType t) h = h
    tied_named seen (IsFunc f) h = h
    tied_named seen (IsInstance es) h = all_named seen es h
    tied_named seen (IsComponent is es) h = h
    tied_named seen (IsModule m) h = tt
    tied_named seen IsOwnModule h = tt

    pub all_named : (seen : List Thing) (es : Entries) → AllTied own seen es
        → AllByRecursion (IfOwn own (seen ++ names_among es)) (outwards (in_entries 0 es))
    all_named seen no_entry h = tt
    all_named seen (entry name e mark es) h =
        let here = subst (λ ts. AllByRecursion (IfOwn own ts) (mentioned e))
        (append_assoc seen (names_of e) (names_among es))
        (weaker (IfOwn own (seen ++ names_of e)) (IfOwn own ((seen ++ names_of e) ++ names_among es))
        (λ t k o. has_first (seen ++ names_of e) (names_among es) t (k o)) (mentioned e) (tied_named seen e h.0)) in
        let rest = subst (λ ts. AllByRecursion (IfOwn own ts) (outwards (in_entries 0 es)))
        (append_assoc seen (names_of e) (names_among es)) (all_named (seen ++ names_of e) es h.1) in
        subst (AllByRecursion (IfOwn own (seen ++ (names_of e ++ names_among es))))
        (sym (outwards-append (in_entity 0 e) (in_entries 0 es)))
        (joined (IfOwn own (seen ++ (names_of e ++ names_among es))) (mentioned e) (outwards (in_entries 0 es)) here
        rest)

-- ---- descriptions

abbrev pub entity_of : Described → EntityTree
entity_of d = d.standing.0

pub named_ordered : (place : Name) (t : TypeShapeTree) → TypeOrdered t → TypeOrdered (named_by place t)
named_ordered place (Value (RecordOf None fields)) h = tt
named_ordered place (Value (VariantOf None cases)) h = tt
named_ordered place (Value (FlagsOf None labels)) h = tt
named_ordered place (Value (EnumOf None labels)) h = tt
named_ordered place t h = h

named_placed : (place : Name) (t : TypeShapeTree) → HasPlaces (IsType (named_by place t))
named_placed place (Value (RecordOf None fields)) = refl
named_placed place (Value (VariantOf None cases)) = refl
named_placed place (Value (FlagsOf None labels)) = refl
named_placed place (Value (EnumOf None labels)) = refl
named_placed place (Value (RecordOf (Some n) fields)) = refl
named_placed place (Value (VariantOf (Some n) cases)) = refl
named_placed place (Value (FlagsOf (Some n) labels)) = refl
named_placed place (Value (EnumOf (Some n) labels)) = refl
named_placed place (Value (Primitive p)) = tt
named_placed place (Value (TupleOf ts)) = tt
named_placed place (Value (ListOf t)) = tt
named_placed place (Value (OptionOf t)) = tt
named_placed place (Value (ResultOf ok err)) = tt
named_placed place (Value (Own r)) = tt
named_placed place (Value (Borrow r)) = tt
named_placed place (Resource r) = tt
named_placed place (Func f) = tt
named_placed place (Instance es) = tt
named_placed place (Component is es) = tt

-- a type that a place may name
pub named_all : (P : Thing → Type 0) (place : Name) (t : TypeShapeTree) → P (called true place)
    → AllByRecursion P (mentioned (IsType t)) → AllByRecursion P (mentioned (IsType (named_by place t)))
named_all P place (Value (RecordOf None fields)) k h =
    together P ((0, OfPlace place) ∷ []) (in_cases 0 fields)
    (together P ((0, OfPlace place) ∷ []) [] (joined P (outward (0, OfPlace place)) [] (at_named P place k) tt) tt) h
named_all P place (Value (VariantOf None cases)) k h =
    together P ((0, OfPlace place) ∷ []) (in_cases 0 cases)
    (together P ((0, OfPlace place) ∷ []) [] (joined P (outward (0, OfPlace place)) [] (at_named P place k) tt) tt) h
named_all P place (Value (FlagsOf None labels)) k h = joined P (outward (0, OfPlace place)) [] (at_named P place k) tt
named_all P place (Value (EnumOf None labels)) k h = joined P (outward (0, OfPlace place)) [] (at_named P place k) tt
named_all P place t k h = h

module _ (c : Bool) (seen : List Thing) (ss : List Scope) where
  abbrev Here : Thing → Type 0
  Here = IsKnown (scope c seen ∷ ss)

  -- what may be mentioned, and the new names of a description, have a property
  module _ (new : NewNames) (P : Thing → Type 0) (old : (t : Thing) → Here t → P t)
      (place : (n : ℕ) → P (called true (new.place n))) (resource : (n : ℕ) → P (called false (new.resource n))) where
    abbrev DescribedHas : Described → Type 0
    DescribedHas d = AllByRecursion P (mentioned (entity_of d)) × Ordered (entity_of d)

    kept_all : (ts : List Thing) → AllByRecursion Here ts → AllByRecursion P ts
    kept_all ts h = weaker Here P old ts h

    opened_thing : (t : Thing) → Further Here t → P (plain_by (opened new.resource) (opened new.place) t)
    opened_thing t h = one t.out refl t.is_type refl
      where
        one : (out : ℕ) → t.out ≡ out → (b : Bool) → t.is_type ≡ b
            → P (called t.is_type (if t.is_type then opened new.place (record { out = t.out; number = t.number })
            else opened new.resource (record { out = t.out; number = t.number })))
        one zero e true is = rw (is, e) (place t.number)
        one zero e false is = rw (is, e) (resource t.number)
        one (suc k) e true is =
            let far : (suc k == 0) ≡ false = grind arith in
            let less : suc k - 1 ≡ k = omega arith in
            rw (is, e, far, less) (subst (λ b. P (record { is_type = b; out = k; number = t.number })) is
            (old (record t { out = k }) (h k e)))
        one (suc k) e false is =
            let far : (suc k == 0) ≡ false = grind arith in
            let less : suc k - 1 ≡ k = omega arith in
            rw (is, e, far, less) (subst (λ b. P (record { is_type = b; out = k; number = t.number })) is
            (old (record t { out = k }) (h k e)))

    type_has : (st : Standing) → StandingGood (scope c seen ∷ ss) st → IfOk (described_type new st) DescribedHas
    type_has (IsType t, named) h =
        (named_all P (new.place 0) t (place 0) (kept_all (mentioned (IsType t)) h.0), named_ordered (new.place 0) t h.1)
    type_has (IsFunc f, named) h = tt
    type_has (IsInstance es, named) h = tt
    type_has (IsComponent is es, named) h = tt
    type_has (IsModule m, named) h = tt
    type_has (IsOwnModule, named) h = tt

    func_has : (st : Standing) → StandingGood (scope c seen ∷ ss) st → IfOk (described_func st) DescribedHas
    func_has (IsType (Func f), true) h = (kept_all (mentioned (IsFunc f)) h.0, tt)
    func_has (IsType (Func f), false) h = tt
    func_has (IsType (Value t), named) h = tt
    func_has (IsType (Resource r), named) h = tt
    func_has (IsType (Instance es), named) h = tt
    func_has (IsType (Component is es), named) h = tt
    func_has (IsFunc f, named) h = tt
    func_has (IsInstance es, named) h = tt
    func_has (IsComponent is es, named) h = tt
    func_has (IsModule m, named) h = tt
    func_has (IsOwnModule, named) h = tt

    component_has : (st : Standing) → StandingGood (scope c seen ∷ ss) st → IfOk (described_component st) DescribedHas
    component_has (IsType (Component is es), named) h = (kept_all (mentioned (IsComponent is es)) h.0, h.1)
    component_has (IsType (Func f), named) h = tt
    component_has (IsType (Value t), named) h = tt
    component_has (IsType (Resource r), named) h = tt
    component_has (IsType (Instance es), named) h = tt
    component_has (IsFunc f, named) h = tt
    component_has (IsInstance es, named) h = tt
    component_has (IsComponent is es, named) h = tt
    component_has (IsModule m, named) h = tt
    component_has (IsOwnModule, named) h = tt

    instance_has : (st : Standing) → StandingGood (scope c seen ∷ ss) st → IfOk (described_instance new st) DescribedHas
    instance_has (IsType (Instance es), named) h = (
      entries_changed (opened new.resource) (opened new.place) (λ m. m) (Further Here) P opened_thing es
          (entries_in Here 0 es h.0),
      entries_ordered (opened new.resource) (opened new.place) (λ m. m) 0 es h.1.1,
    )
    instance_has (IsType (Func f), named) h = tt
    instance_has (IsType (Value t), named) h = tt
    instance_has (IsType (Resource r), named) h = tt
    instance_has (IsType (Component is es), named) h = tt
    instance_has (IsFunc f, named) h = tt
    instance_has (IsInstance es, named) h = tt
    instance_has (IsComponent is es, named) h = tt
    instance_has (IsModule m, named) h = tt
    instance_has (IsOwnModule, named) h = tt

    pub described_has : (s : Spaces) (ref : TypeRef) → SpacesGood c seen ss s → IfOk (described s new ref) DescribedHas
    unfolding described
    described_has s (description.Module i) h =
        then_ok Anything DescribedHas (at_index s.core_types i) _ (anything (at_index s.core_types i))
        (λ t k. then_ok Anything DescribedHas (as_module t) _ (anything (as_module t)) (λ m l. (tt, tt)))
    described_has s (description.Func i) h =
        then_ok (StandingGood (scope c seen ∷ ss)) DescribedHas (at_index s.types i) _
        (index_ok (StandingGood (scope c seen ∷ ss)) s.types i h.types) func_has
    described_has s (description.TyEqual i) h =
        then_ok (StandingGood (scope c seen ∷ ss)) DescribedHas (at_index s.types i) _
        (index_ok (StandingGood (scope c seen ∷ ss)) s.types i h.types) type_has
    described_has s description.TyFresh h =
        (joined P (outward (0, OfResource (new.resource 0))) [] (at_resource P (new.resource 0) (resource 0)) tt, tt)
    described_has s (description.Component i) h =
        then_ok (StandingGood (scope c seen ∷ ss)) DescribedHas (at_index s.types i) _
        (index_ok (StandingGood (scope c seen ∷ ss)) s.types i h.types) component_has
    described_has s (description.Instance i) h =
        then_ok (StandingGood (scope c seen ∷ ss)) DescribedHas (at_index s.types i) _
        (index_ok (StandingGood (scope c seen ∷ ss)) s.types i h.types) instance_has

  -- what is described is tied: the new names are named in it
  module _ (new : NewNames) where
    abbrev DescribedTied : Described → Type 0
    DescribedTied d = Tied (is_own c) seen (entity_of d) × HasPlaces (entity_of d)

    known_tied : (ns ts : List Thing) → AllByRecursion Here ts → AllByRecursion (IfOwn (is_own c) (seen ++ ns)) ts
    known_tied ns ts h = weaker Here (IfOwn (is_own c) (seen ++ ns)) (λ t k o. has_first seen ns t (k.0 o)) ts h

    named_itself : (x : Thing) → IfOwn (is_own c) (seen ++ x ∷ []) x
    named_itself x o = has_then seen (x ∷ []) x (has_itself x [])

    named_tied : (place : Name) (t : TypeShapeTree) → AllByRecursion Here (mentioned (IsType t))
        → Tied (is_own c) seen (IsType (named_by place t))
    named_tied place (Value (RecordOf None fields)) h =
        named_all (IfOwn (is_own c) (seen ++ named_type place ∷ [])) place (Value (RecordOf None fields))
        (named_itself (named_type place)) (known_tied (named_type place ∷ []) (outwards (in_cases 0 fields)) h)
    named_tied place (Value (VariantOf None cases)) h =
        named_all (IfOwn (is_own c) (seen ++ named_type place ∷ [])) place (Value (VariantOf None cases))
        (named_itself (named_type place)) (known_tied (named_type place ∷ []) (outwards (in_cases 0 cases)) h)
    named_tied place (Value (FlagsOf None labels)) h =
        named_all (IfOwn (is_own c) (seen ++ named_type place ∷ [])) place (Value (FlagsOf None labels))
        (named_itself (named_type place)) tt
    named_tied place (Value (EnumOf None labels)) h =
        named_all (IfOwn (is_own c) (seen ++ named_type place ∷ [])) place (Value (EnumOf None labels))
        (named_itself (named_type place)) tt
    named_tied place t h = known_tied (names_of (IsType t)) (mentioned (IsType t)) h

    type_tied : (st : Standing) → StandingGood (scope c seen ∷ ss) st → IfOk (described_type new st) DescribedTied
    type_tied (IsType t, named) h = (named_tied (new.place 0) t h.0, named_placed (new.place 0) t)
    type_tied (IsFunc f, named) h = tt
    type_tied (IsInstance es, named) h = tt
    type_tied (IsComponent is es, named) h = tt
    type_tied (IsModule m, named) h = tt
    type_tied (IsOwnModule, named) h = tt

    func_tied : (st : Standing) → StandingGood (scope c seen ∷ ss) st → IfOk (described_func st) DescribedTied
    func_tied (IsType (Func f), true) h = (known_tied [] (mentioned (IsFunc f)) h.0, tt)
    func_tied (IsType (Func f), false) h = tt
    func_tied (IsType (Value t), named) h = tt
    func_tied (IsType (Resource r), named) h = tt
    func_tied (IsType (Instance es), named) h = tt
    func_tied (IsType (Component is es), named) h = tt
    func_tied (IsFunc f, named) h = tt
    func_tied (IsInstance es, named) h = tt
    func_tied (IsComponent is es, named) h = tt
    func_tied (IsModule m, named) h = tt
    func_tied (IsOwnModule, named) h = tt

    component_tied : (st : Standing) → StandingGood (scope c seen ∷ ss) st → IfOk (described_component st) DescribedTied
    component_tied (IsType (Component is es), named) h = (known_tied [] (mentioned (IsComponent is es)) h.0, tt)
    component_tied (IsType (Func f), named) h = tt
    component_tied (IsType (Value t), named) h = tt
    component_tied (IsType (Resource r), named) h = tt
    component_tied (IsType (Instance es), named) h = tt
    component_tied (IsFunc f, named) h = tt
    component_tied (IsInstance es, named) h = tt
    component_tied (IsComponent is es, named) h = tt
    component_tied (IsModule m, named) h = tt
    component_tied (IsOwnModule, named) h = tt

    abbrev AsksHere : Thing → Type 0
    AsksHere = Asks (opened new.resource) (opened new.place) (λ m. m) 0 is_near (is_own c) seen

    opened_asks : (t : Thing) → Further Here t → AsksHere t
    opened_asks t h =
        subst (λ x. is_own c x ≡ true → (has seen x ≡ true) ⊎ (is_near t ≡ true))
        (sym (at_once (opened new.resource) (opened new.place) (λ m. m) t)) (one t.out refl t.is_type refl)
      where
        one : (out : ℕ) → t.out ≡ out → (b : Bool) → t.is_type ≡ b
            → is_own c (plain_by (opened new.resource) (opened new.place) t) ≡ true
            → (has seen (plain_by (opened new.resource) (opened new.place) t) ≡ true) ⊎ (is_near t ≡ true)
        one zero e b is = λ o. inr (let near : (t.out == 0) ≡ true = grind arith in near)
        one (suc k) e b is =
            let far : (t.out == 0) ≡ false = grind arith in
            let less : t.out - 1 ≡ k = omega (arith, e) in
            let same : plain_by (opened new.resource) (opened new.place) t ≡ record t { out = k } = moved b is far
            less in
            subst (λ x. is_own c x ≡ true → (has seen x ≡ true) ⊎ (is_near t ≡ true)) (sym same)
            (λ o. inl ((h k e).0 o))
          where
            moved : (b : Bool) → t.is_type ≡ b → (t.out == 0) ≡ false → t.out - 1 ≡ k
                → plain_by (opened new.resource) (opened new.place) t ≡ record t { out = k }
            moved true is far less =
                ap (λ b. called t.is_type (if b then opened new.place (record { out = t.out; number = t.number })
                else opened new.resource (record { out = t.out; number = t.number }))) is
                ∙ ap (λ b. called t.is_type (if b then new.place t.number
                else record { out = t.out - 1; number = t.number })) far
                ∙ ap (λ k. called t.is_type (record { out = k; number = t.number })) less
            moved false is far less =
                ap (λ b. called t.is_type (if b then opened new.place (record { out = t.out; number = t.number })
                else opened new.resource (record { out = t.out; number = t.number }))) is
                ∙ ap (λ b. called t.is_type (if b then new.resource t.number
                else record { out = t.out - 1; number = t.number })) far
                ∙ ap (λ k. called t.is_type (record { out = k; number = t.number })) less

    instance_tied : (st : Standing) → StandingGood (scope c seen ∷ ss) st
        → IfOk (described_instance new st) DescribedTied
    instance_tied (IsType (Instance es), named) h = (
      entries_tied (opened new.resource) (opened new.place) (λ m. m) 0 is_near (is_own c) [] seen es
          (λ t o k. absurd cc)
          (weaker (Further Here) AsksHere opened_asks (outwards (in_entries 0 es)) (entries_in Here 0 es h.0)) h.1.0,
      entries_placed (opened new.resource) (opened new.place) (λ m. m) 0 es h.1.2,
    )
    instance_tied (IsType (Func f), named) h = tt
    instance_tied (IsType (Value t), named) h = tt
    instance_tied (IsType (Resource r), named) h = tt
    instance_tied (IsType (Component is es), named) h = tt
    instance_tied (IsFunc f, named) h = tt
    instance_tied (IsInstance es, named) h = tt
    instance_tied (IsComponent is es, named) h = tt
    instance_tied (IsModule m, named) h = tt
    instance_tied (IsOwnModule, named) h = tt

    pub described_tied : (s : Spaces) (ref : TypeRef) → SpacesGood c seen ss s
        → IfOk (described s new ref) DescribedTied
    unfolding described
    described_tied s (description.Module i) h =
        then_ok Anything DescribedTied (at_index s.core_types i) _ (anything (at_index s.core_types i))
        (λ t k. then_ok Anything DescribedTied (as_module t) _ (anything (as_module t)) (λ m l. (tt, tt)))
    described_tied s (description.Func i) h =
        then_ok (StandingGood (scope c seen ∷ ss)) DescribedTied (at_index s.types i) _
        (index_ok (StandingGood (scope c seen ∷ ss)) s.types i h.types) func_tied
    described_tied s (description.TyEqual i) h =
        then_ok (StandingGood (scope c seen ∷ ss)) DescribedTied (at_index s.types i) _
        (index_ok (StandingGood (scope c seen ∷ ss)) s.types i h.types) type_tied
    described_tied s description.TyFresh h = (
      joined (IfOwn (is_own c) (seen ++ resource (new.resource 0) ∷ [])) (outward (0, OfResource (new.resource 0)))
          [] (at_resource (IfOwn (is_own c) (seen ++ resource (new.resource 0) ∷ [])) (new.resource 0)
          (named_itself (resource (new.resource 0)))) tt,
      tt,
    )
    described_tied s (description.Component i) h =
        then_ok (StandingGood (scope c seen ∷ ss)) DescribedTied (at_index s.types i) _
        (index_ok (StandingGood (scope c seen ∷ ss)) s.types i h.types) component_tied
    described_tied s (description.Instance i) h =
        then_ok (StandingGood (scope c seen ∷ ss)) DescribedTied (at_index s.types i) _
        (index_ok (StandingGood (scope c seen ∷ ss)) s.types i h.types) instance_tied
