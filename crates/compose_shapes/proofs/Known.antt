-- What may be mentioned in scopes within others, and what of it stands where names are changed.
use Rattle.std.proofs.Common.{◌≡◌, ◌+◌, ◌-◌, ℕ, Bool, true, false, List, [], ◌∷◌, ◌++◌, map, Option, Some, None, refl, sym, ap, subst, ◌∙◌, arith}
use Rattle.std.specs.Prelude.{◌&&◌, IfSome, nat_le, nat_lt, ◌==◌, if◌then◌else◌}
use Rattle.std.specs.List.{AllByRecursion}
use Rattle.std.specs.Option.{option_map_or}
use Rattle.std.specs.Str.{bytes_eq}
use Rattle.std.proofs.lemmas.Bool.{le-leb}
use Rattle.comp_entity.specs.Entity.{Name, ValueTree, Primitive, TupleOf, RecordOf, VariantOf, ListOf, FlagsOf, EnumOf, OptionOf, ResultOf, Own, Borrow, TypeShapeTree, Value, Resource, Func, Instance, Component, EntityTree, IsType, IsFunc, IsInstance, IsComponent, IsModule, IsOwnModule, Entries, no_entry, entry}
use Rattle.comp_entity.specs.Fits.{Stands, ForResource, ForPlace, place_of, for_place, type_stands, stands, all_stand, resource_for, place_for, same_name, under}
use Rattle.comp_entity.specs.Names.{outside, deeper, entity_by, entries_by, OfResource, OfPlace, in_value, in_cases, in_entity, in_entries}
use Rattle.compose_left.specs.declared.spots.Thing.{Thing}
use Rattle.compose_needs.specs.Mentioned.{mentioned, outward, outwards}
use Rattle.compose_shapes.proofs.Mentions.{called, naming, thing_by, entity_mentions, entries_mention, outwards-append, Further}
use Rattle.compose_shapes.proofs.Things.{front, back, joined, changed, weaker, has_first}
use Rattle.compose_shapes.proofs.Tied.{IfOwn, Ordered, AreOrdered, is_near}

-- A scope: a component or a type of components, or a type of instances, and what its imports, or its exports, name.
pub record Scope : Type 0 where
  pub is_closed : Bool
  pub seen : List Thing

abbrev pub scope : Bool → List Thing → Scope
scope is_closed seen = record { is_closed = is_closed; seen = seen }

-- what the imports of a component bring as types, and what a type of instances has in its own scope
abbrev pub is_own : Bool → Thing → Bool
is_own true t = t.is_type && (t.out == 1)
is_own false t = is_near t

abbrev pub Beyond : Bool → (Thing → Type 0) → Thing → Type 0
Beyond true P = Further (Further P)
Beyond false P = Further P

-- what may be mentioned within scopes, from the innermost: what its imports, or its exports, name, and what may be around
abbrev pub IsKnown : List Scope → Thing → Type 0
IsKnown [] t = ⊥
IsKnown (s ∷ ss) t = IfOwn (is_own s.is_closed) s.seen t × Beyond s.is_closed (IsKnown ss) t

-- an entity that mentions no more, in which names stand in order
abbrev pub Good : List Scope → EntityTree → Type 0
Good ss e = AllByRecursion (IsKnown ss) (mentioned e) × Ordered e

abbrev pub AllGood : List Scope → Entries → Type 0
AllGood ss es = AllByRecursion (IsKnown ss) (outwards (in_entries 0 es)) × AreOrdered es

pub known_later : (c : Bool) (seen more : List Thing) (ss : List Scope) (t : Thing) → IsKnown (scope c seen ∷ ss) t
    → IsKnown (scope c (seen ++ more) ∷ ss) t
known_later c seen more ss t h = ((λ o. has_first seen more t (h.0 o)), h.1)

pub good_later : (c : Bool) (seen more : List Thing) (ss : List Scope) (e : EntityTree) → Good (scope c seen ∷ ss) e
    → Good (scope c (seen ++ more) ∷ ss) e
good_later c seen more ss e h = (
  weaker (IsKnown (scope c seen ∷ ss)) (IsKnown (scope c (seen ++ more) ∷ ss)) (known_later c seen more ss)
      (mentioned e) h.0,
  h.1,
)

-- ---- a name that is mentioned where it stands

pub outward_resource : (n : Name) → outward (0, OfResource n) ≡ called false n ∷ []
outward_resource n =
    let there : nat_le 0 n.out ≡ true = le-leb 0 n.out (omega arith) in
    let same : n.out - 0 ≡ n.out = omega arith in
    rw (there, same) refl

pub outward_place : (n : Name) → outward (0, OfPlace n) ≡ called true n ∷ []
outward_place n =
    let there : nat_le 0 n.out ≡ true = le-leb 0 n.out (omega arith) in
    let same : n.out - 0 ≡ n.out = omega arith in
    rw (there, same) refl

module _ (P : Thing → Type 0) where
  pub at_resource : (n : Name) → P (called false n) → AllByRecursion P (outward (0, OfResource n))
  at_resource n h = subst (AllByRecursion P) (sym (outward_resource n)) (h, tt)

  pub of_resource : (n : Name) → AllByRecursion P (outward (0, OfResource n)) → P (called false n)
  of_resource n h = (subst (AllByRecursion P) (outward_resource n) h).0

  pub at_named : (n : Name) → P (called true n) → AllByRecursion P (outward (0, OfPlace n))
  at_named n h = subst (AllByRecursion P) (sym (outward_place n)) (h, tt)

  pub of_named : (n : Name) → AllByRecursion P (outward (0, OfPlace n)) → P (called true n)
  of_named n h = (subst (AllByRecursion P) (outward_place n) h).0

-- ---- where names of the scope are changed

abbrev pub plain_by : (Name → Name) → (Name → Name) → Thing → Thing
plain_by f g t =
    called t.is_type (if t.is_type then g (record { out = t.out; number = t.number }) else f
    (record { out = t.out; number = t.number }))

outside_zero : (f : Name → Name) (n : Name) → outside f 0 n ≡ f n
outside_zero f n =
    let far : nat_lt n.out 0 ≡ false = grind arith in
    let same : n.out - 0 ≡ n.out = omega arith in
    let m : Name = f n in
    let sum : m.out + 0 ≡ m.out = omega arith in
    rw far (ap (λ o. deeper 0 (f (record { out = o; number = n.number }))) same
    ∙ ap (λ o. record { out = o; number = m.number }) sum)

pub at_once : (f g : Name → Name) (mark : Bool → Bool) (t : Thing) → thing_by f g mark 0 t ≡ plain_by f g t
at_once f g mark t =
    λ i. called t.is_type (if t.is_type then outside_zero g (record { out = t.out; number = t.number }) i
    else outside_zero f (record { out = t.out; number = t.number }) i)

module _ (f g : Name → Name) (mark : Bool → Bool) (P Q : Thing → Type 0) (w : (t : Thing) → P t → Q (plain_by f g t))
  where
    things_changed : (ts : List Thing) → AllByRecursion P ts → AllByRecursion Q (map (thing_by f g mark 0) ts)
    things_changed ts h = changed P Q (thing_by f g mark 0) (λ t k. subst Q (sym (at_once f g mark t)) (w t k)) ts h

    pub entity_changed : (e : EntityTree) → AllByRecursion P (mentioned e)
        → AllByRecursion Q (mentioned (entity_by (naming f g mark) 0 e))
    entity_changed e h = subst (AllByRecursion Q) (sym (entity_mentions f g mark 0 e)) (things_changed (mentioned e) h)

    pub entries_changed : (es : Entries) → AllByRecursion P (outwards (in_entries 0 es))
        → AllByRecursion Q (outwards (in_entries 0 (entries_by (naming f g mark) 0 es)))
    entries_changed es h =
        subst (AllByRecursion Q) (sym (entries_mention f g mark 0 es)) (things_changed (outwards (in_entries 0 es)) h)

-- ---- what an instance exports under a name

module _ (ss : List Scope) where
  pub split : (name : List ℕ) (e : EntityTree) (mark : Bool) (es : Entries) → AllGood ss (entry name e mark es)
      → Good ss e × AllGood ss es
  split name e mark es h =
      let parts = subst (AllByRecursion (IsKnown ss)) (outwards-append (in_entity 0 e) (in_entries 0 es)) h.0 in (
        (front (IsKnown ss) (mentioned e) (outwards (in_entries 0 es)) parts, h.1.1),
        (back (IsKnown ss) (mentioned e) (outwards (in_entries 0 es)) parts, h.1.2),
      )

  pub under_good : (name : List ℕ) (es : Entries) → AllGood ss es → IfSome (under name es) (λ x. Good ss x.0)
  under_good name no_entry h = tt
  under_good name (entry n e mark es) h =
      let parts = split n e mark es h in one (bytes_eq name n) parts.0 (under_good name es parts.1)
    where
      one : (b : Bool) → Good ss e → IfSome (under name es) (λ x. Good ss x.0)
          → IfSome (if b then Some (e, mark) else under name es) (λ x. Good ss x.0)
      one true here rest = here
      one false here rest = rest

-- ---- what stands for the names of an asked entity

abbrev pub IsThere : (Thing → Type 0) → Stands → Type 0
IsThere P (ForResource asked r) = P (called false r)
IsThere P (ForPlace asked p) = IfSome p (λ n. P (called true n))

module _ (P : Thing → Type 0) where
  placed_there : (t : ValueTree) → AllByRecursion P (outwards (in_value 0 t))
      → IfSome (place_of t) (λ n. P (called true n))
  placed_there (RecordOf (Some n) cs) h = of_named P n (front P (outward (0, OfPlace n)) (outwards (in_cases 0 cs)) h)
  placed_there (RecordOf None cs) h = tt
  placed_there (VariantOf (Some n) cs) h = of_named P n (front P (outward (0, OfPlace n)) (outwards (in_cases 0 cs)) h)
  placed_there (VariantOf None cs) h = tt
  placed_there (FlagsOf (Some n) ls) h = of_named P n (front P (outward (0, OfPlace n)) [] h)
  placed_there (FlagsOf None ls) h = tt
  placed_there (EnumOf (Some n) ls) h = of_named P n (front P (outward (0, OfPlace n)) [] h)
  placed_there (EnumOf None ls) h = tt
  placed_there (Primitive p) h = tt
  placed_there (TupleOf ts) h = tt
  placed_there (ListOf t) h = tt
  placed_there (OptionOf t) h = tt
  placed_there (ResultOf ok err) h = tt
  placed_there (Own r) h = tt
  placed_there (Borrow r) h = tt

  for_place_there : (asked p : Option Name) → IfSome p (λ n. P (called true n))
      → AllByRecursion (IsThere P) (for_place asked p)
  for_place_there (Some n) p h = (h, tt)
  for_place_there None p h = tt

  type_there : (t asked : TypeShapeTree) → AllByRecursion P (mentioned (IsType t))
      → AllByRecursion (IsThere P) (type_stands t asked)
  type_there (Resource r) (Resource asked) h = (of_resource P r (front P (outward (0, OfResource r)) [] h), tt)
  type_there (Value t) (Value asked) h = for_place_there (place_of asked) (place_of t) (placed_there t h)
  type_there (Resource r) (Value asked) h = tt
  type_there (Resource r) (Func asked) h = tt
  type_there (Resource r) (Instance asked) h = tt
  type_there (Resource r) (Component asked others) h = tt
  type_there (Value t) (Resource asked) h = tt
  type_there (Value t) (Func asked) h = tt
  type_there (Value t) (Instance asked) h = tt
  type_there (Value t) (Component asked others) h = tt
  type_there (Func x) asked h = tt
  type_there (Instance es) asked h = tt
  type_there (Component is es) asked h = tt

  under_there : (name : List ℕ) (es : Entries) → AllByRecursion P (outwards (in_entries 0 es))
      → IfSome (under name es) (λ x. AllByRecursion P (mentioned x.0))
  under_there name no_entry h = tt
  under_there name (entry n e mark es) h =
      let parts = subst (AllByRecursion P) (outwards-append (in_entity 0 e) (in_entries 0 es)) h in
      one (bytes_eq name n) (front P (mentioned e) (outwards (in_entries 0 es)) parts)
      (under_there name es (back P (mentioned e) (outwards (in_entries 0 es)) parts))
    where
      one : (b : Bool) → AllByRecursion P (mentioned e) → IfSome (under name es) (λ x. AllByRecursion P (mentioned x.0))
          → IfSome (if b then Some (e, mark) else under name es) (λ x. AllByRecursion P (mentioned x.0))
      one true here rest = here
      one false here rest = rest

  mutual
    pub entity_there : (given asked : EntityTree) → AllByRecursion P (mentioned given)
        → AllByRecursion (IsThere P) (stands given asked)
    entity_there (IsType t) (IsType asked) h = type_there t asked h
    entity_there (IsInstance es) (IsInstance asked) h = entries_there es asked h
    entity_there (IsType t) (IsFunc x) h = tt
    entity_there (IsType t) (IsInstance x) h = tt
    entity_there (IsType t) (IsComponent x y) h = tt
    entity_there (IsType t) (IsModule m) h = tt
    entity_there (IsType t) IsOwnModule h = tt
    entity_there (IsInstance es) (IsType t) h = tt
    entity_there (IsInstance es) (IsFunc x) h = tt
    entity_there (IsInstance es) (IsComponent x y) h = tt
    entity_there (IsInstance es) (IsModule m) h = tt
    entity_there (IsInstance es) IsOwnModule h = tt
    entity_there (IsFunc x) asked h = tt
    entity_there (IsComponent x y) asked h = tt
    entity_there (IsModule m) asked h = tt
    entity_there IsOwnModule asked h = tt

    pub entries_there : (given asked : Entries) → AllByRecursion P (outwards (in_entries 0 given))
        → AllByRecursion (IsThere P) (all_stand given asked)
    entries_there given no_entry h = tt
    entries_there given (entry name asked mark rest) h =
        joined (IsThere P) (option_map_or (λ e. stands e.0 asked) (under name given) []) (all_stand given rest)
        (found (λ e k. entity_there e asked k) (under name given) (under_there name given h))
        (entries_there given rest h)
      where
        found : ((e : EntityTree) → AllByRecursion P (mentioned e) → AllByRecursion (IsThere P) (stands e asked))
            → (o : Option (EntityTree × Bool)) → IfSome o (λ x. AllByRecursion P (mentioned x.0))
            → AllByRecursion (IsThere P) (option_map_or (λ e. stands e.0 asked) o [])
        found each None k = tt
        found each (Some x) k = each x.0 k

  pub resource_there : (there : List Stands) (n : Name) → AllByRecursion (IsThere P) there
      → IfSome (resource_for there n) (λ r. P (called false r))
  resource_there [] n h = tt
  resource_there (ForResource asked r ∷ there) n h = one (same_name asked n) h.0 (resource_there there n h.1)
    where
      one : (b : Bool) → P (called false r) → IfSome (resource_for there n) (λ r. P (called false r))
          → IfSome (if b then Some r else resource_for there n) (λ r. P (called false r))
      one true here rest = here
      one false here rest = rest
  resource_there (ForPlace asked p ∷ there) n h = resource_there there n h.1

  pub place_there : (there : List Stands) (n : Name) → AllByRecursion (IsThere P) there
      → IfSome (place_for there n) (λ p. IfSome p (λ m. P (called true m)))
  place_there [] n h = tt
  place_there (ForResource asked r ∷ there) n h = place_there there n h.1
  place_there (ForPlace asked p ∷ there) n h = one (same_name asked n) h.0 (place_there there n h.1)
    where
      one : (b : Bool) → IfSome p (λ m. P (called true m))
          → IfSome (place_for there n) (λ p. IfSome p (λ m. P (called true m)))
          → IfSome (if b then Some p else place_for there n) (λ p. IfSome p (λ m. P (called true m)))
      one true here rest = here
      one false here rest = rest
