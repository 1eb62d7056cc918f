-- Entities in which names stand in order: each type of instances in it names what it mentions of its own scope there or
-- earlier, and names of exports differ. So they do where the names of scopes around are changed.
use Rattle.std.proofs.Common.{◌≡◌, ◌⊎◌, inl, inr, ◌+◌, ◌-◌, ℕ, suc, Bool, true, false, List, [], ◌∷◌, ◌++◌, map, Some, None, refl, sym, subst, ◌∙◌, arith}
use Rattle.std.specs.Prelude.{not, is_some, nat_lt, option_to_list, ◌==◌, if◌then◌else◌}
use Rattle.std.specs.List.{AllByRecursion}
use Rattle.std.specs.Str.{bytes_eq}
use Rattle.std.proofs.lemmas.List.{map-append}
use Rattle.comp_entity.specs.Entity.{Name, ValueTree, Primitive, TupleOf, RecordOf, VariantOf, ListOf, FlagsOf, EnumOf, OptionOf, ResultOf, Own, Borrow, TypeShapeTree, Value, Resource, Func, Instance, Component, EntityTree, IsType, IsFunc, IsInstance, IsComponent, IsModule, IsOwnModule, Entries, no_entry, entry}
use Rattle.comp_entity.specs.Fits.{under}
use Rattle.comp_entity.specs.Names.{outside, value_by, entity_by, entries_by, in_entity, in_entries, Change}
use Rattle.compose_left.specs.declared.spots.Thing.{Thing}
use Rattle.compose_left.specs.Merging.{is_absent}
use Rattle.compose_left.specs.Spots.{named_by, placed_thing}
use Rattle.compose_needs.specs.Mentioned.{has, mentioned, outwards}
use Rattle.compose_known.specs.Placed.{HasPlace, HasPlaces, HavePlaces}
use Rattle.compose_shapes.proofs.Mentions.{naming, thing_by, entity_mentions, outwards-append}
use Rattle.compose_shapes.proofs.Things.{front, back, changed, of_both, weaker, has_either, has_first, has_then, has_image}

-- what an entity names as types, instances gone into
abbrev mutual
  pub names_of : EntityTree → List Thing
  names_of (IsInstance es) = names_among es
  names_of e = option_to_list (named_by e)

  pub names_among : Entries → List Thing
  names_among no_entry = []
  names_among (entry name e mark es) = names_of e ++ names_among es

-- a thing of this kind is among these
abbrev pub IfOwn : (Thing → Bool) → List Thing → Thing → Type 0
IfOwn own seen t = own t ≡ true → has seen t ≡ true

-- what is mentioned, and is of this kind, is among these or is named there or earlier
abbrev mutual
  pub Tied : (Thing → Bool) → List Thing → EntityTree → Type 0
  Tied own seen (IsInstance es) = AllTied own seen es
  Tied own seen e = AllByRecursion (IfOwn own (seen ++ names_of e)) (mentioned e)

  pub AllTied : (Thing → Bool) → List Thing → Entries → Type 0
  AllTied own seen no_entry = Unit {0}
  AllTied own seen (entry name e mark es) = Tied own seen e × AllTied own (seen ++ names_of e) es

-- what a type of instances has in its own scope
abbrev pub is_near : Thing → Bool
is_near t = t.out == 0

abbrev mutual
  pub TypeOrdered : TypeShapeTree → Type 0
  TypeOrdered (Value t) = Unit {0}
  TypeOrdered (Resource r) = Unit {0}
  TypeOrdered (Func f) = Unit {0}
  TypeOrdered (Instance es) = AllTied is_near [] es × AreOrdered es × HavePlaces es
  TypeOrdered (Component is es) = AreOrdered is × AreOrdered es

  pub Ordered : EntityTree → Type 0
  Ordered (IsType t) = TypeOrdered t
  Ordered (IsFunc f) = Unit {0}
  Ordered (IsInstance es) = AreOrdered es
  Ordered (IsComponent is es) = AreOrdered is × AreOrdered es
  Ordered (IsModule m) = Unit {0}
  Ordered IsOwnModule = Unit {0}

  pub AreOrdered : Entries → Type 0
  AreOrdered no_entry = Unit {0}
  AreOrdered (entry name e mark es) = (is_absent name es ≡ true) × Ordered e × AreOrdered es

-- ---- where names are changed

module _ (f g : Name → Name) (mark : Bool → Bool) (i : ℕ) where
  value_named : (t : ValueTree) → option_to_list (placed_thing (value_by (naming f g mark) i t)) ≡ map
      (thing_by f g mark i) (option_to_list (placed_thing t))
  value_named (Primitive p) = refl
  value_named (TupleOf ts) = refl
  value_named (RecordOf None cs) = refl
  value_named (RecordOf (Some n) cs) = refl
  value_named (VariantOf None cs) = refl
  value_named (VariantOf (Some n) cs) = refl
  value_named (ListOf t) = refl
  value_named (FlagsOf None ls) = refl
  value_named (FlagsOf (Some n) ls) = refl
  value_named (EnumOf None ls) = refl
  value_named (EnumOf (Some n) ls) = refl
  value_named (OptionOf t) = refl
  value_named (ResultOf ok err) = refl
  value_named (Own r) = refl
  value_named (Borrow r) = refl

  mutual
    pub entity_named : (e : EntityTree) → names_of (entity_by (naming f g mark) i e) ≡ map (thing_by f g mark i)
        (names_of e)
    entity_named (IsType (Value t)) = value_named t
    entity_named (IsType (Resource r)) = refl
    entity_named (IsType (Func x)) = refl
    entity_named (IsType (Instance es)) = refl
    entity_named (IsType (Component is es)) = refl
    entity_named (IsFunc x) = refl
    entity_named (IsInstance es) = entries_named es
    entity_named (IsComponent is es) = refl
    entity_named (IsModule m) = refl
    entity_named IsOwnModule = refl

    pub entries_named : (es : Entries) → names_among (entries_by (naming f g mark) i es) ≡ map (thing_by f g mark i)
        (names_among es)
    entries_named no_entry = refl
    entries_named (entry name e m es) =
        (λ j. entity_named e j ++ entries_named es j)
        ∙ sym (map-append (thing_by f g mark i) (names_of e) (names_among es))

  -- what is of the other kind behind the change is among the others, or was of this kind before
  module _ (own other : Thing → Bool) where
    abbrev pub Asks : List Thing → Thing → Type 0
    Asks others t = other (thing_by f g mark i t) ≡ true → (has others (thing_by f g mark i t) ≡ true) ⊎ (own t ≡ true)

    abbrev pub Along : List Thing → List Thing → Type 0
    Along seen others = (t : Thing) → own t ≡ true → has seen t ≡ true → has others (thing_by f g mark i t) ≡ true

    further : (seen others ns : List Thing) → Along seen others
        → Along (seen ++ ns) (others ++ map (thing_by f g mark i) ns)
    further seen others ns along t o h = go (has_either seen ns t h)
      where
        go : (has seen t ≡ true) ⊎ (has ns t ≡ true)
            → has (others ++ map (thing_by f g mark i) ns) (thing_by f g mark i t) ≡ true
        go (inl k) = has_first others (map (thing_by f g mark i) ns) (thing_by f g mark i t) (along t o k)
        go (inr k) =
            has_then others (map (thing_by f g mark i) ns) (thing_by f g mark i t)
            (has_image (thing_by f g mark i) ns t k)

    later : (others ns ts : List Thing) → AllByRecursion (Asks others) ts → AllByRecursion (Asks (others ++ ns)) ts
    later others ns ts h = weaker (Asks others) (Asks (others ++ ns)) (λ t k o. go t (k o)) ts h
      where
        go : (t : Thing) → (has others (thing_by f g mark i t) ≡ true) ⊎ (own t ≡ true)
            → (has (others ++ ns) (thing_by f g mark i t) ≡ true) ⊎ (own t ≡ true)
        go t (inl k) = inl (has_first others ns (thing_by f g mark i t) k)
        go t (inr k) = inr k

    leaf_tied : (seen others ns ts : List Thing) → Along seen others → AllByRecursion (Asks others) ts
        → AllByRecursion (IfOwn own (seen ++ ns)) ts
        → AllByRecursion (IfOwn other (others ++ map (thing_by f g mark i) ns)) (map (thing_by f g mark i) ts)
    leaf_tied seen others ns ts along asks tied =
        changed (λ t. Asks others t × IfOwn own (seen ++ ns) t) (IfOwn other (others ++ map (thing_by f g mark i) ns))
        (thing_by f g mark i) (λ t h o. go t (h.0 o) h.1) ts
        (of_both (Asks others) (IfOwn own (seen ++ ns)) (λ t. Asks others t × IfOwn own (seen ++ ns) t)
        (λ t a b. (a, b)) ts asks tied)
      where
        go : (t : Thing) → (has others (thing_by f g mark i t) ≡ true) ⊎ (own t ≡ true) → IfOwn own (seen ++ ns) t
            → has (others ++ map (thing_by f g mark i) ns) (thing_by f g mark i t) ≡ true
        go t (inl k) h = has_first others (map (thing_by f g mark i) ns) (thing_by f g mark i t) k
        go t (inr k) h = further seen others ns along t k (h k)

    one_tied : (seen others : List Thing) (e : EntityTree) → Along seen others
        → AllByRecursion (Asks others) (mentioned e) → AllByRecursion (IfOwn own (seen ++ names_of e)) (mentioned e)
        → AllByRecursion (IfOwn other (others ++ names_of (entity_by (naming f g mark) i e)))
        (mentioned (entity_by (naming f g mark) i e))
    one_tied seen others e along asks tied =
        subst (λ ns. AllByRecursion (IfOwn other (others ++ ns)) (mentioned (entity_by (naming f g mark) i e)))
        (sym (entity_named e))
        (subst (AllByRecursion (IfOwn other (others ++ map (thing_by f g mark i) (names_of e))))
        (sym (entity_mentions f g mark i e))
        (leaf_tied seen others (names_of e) (mentioned e) along asks tied))

    mutual
      pub entity_tied : (seen others : List Thing) (e : EntityTree) → Along seen others
          → AllByRecursion (Asks others) (mentioned e) → Tied own seen e
          → Tied other others (entity_by (naming f g mark) i e)
      entity_tied seen others (IsType t) along asks tied = one_tied seen others (IsType t) along asks tied
      entity_tied seen others (IsFunc x) along asks tied = one_tied seen others (IsFunc x) along asks tied
      entity_tied seen others (IsInstance es) along asks tied = entries_tied seen others es along asks tied
      entity_tied seen others (IsComponent is es) along asks tied =
          one_tied seen others (IsComponent is es) along asks tied
      entity_tied seen others (IsModule m) along asks tied = tt
      entity_tied seen others IsOwnModule along asks tied = tt

      pub entries_tied : (seen others : List Thing) (es : Entries) → Along seen others
          → AllByRecursion (Asks others) (outwards (in_entries 0 es)) → AllTied own seen es
          → AllTied other others (entries_by (naming f g mark) i es)
      entries_tied seen others no_entry along asks tied = tt
      entries_tied seen others (entry name e m es) along asks tied =
          let ms : List Thing = mentioned e in
          let parts = subst (AllByRecursion (Asks others)) (outwards-append (in_entity 0 e) (in_entries 0 es)) asks in (
            entity_tied seen others e along (front (Asks others) ms (outwards (in_entries 0 es)) parts) tied.0,
            subst (λ ns. AllTied other (others ++ ns) (entries_by (naming f g mark) i es)) (sym (entity_named e))
                (entries_tied (seen ++ names_of e) (others ++ map (thing_by f g mark i) (names_of e)) es
                (further seen others (names_of e) along)
                (later others (map (thing_by f g mark i) (names_of e)) (outwards (in_entries 0 es))
                (back (Asks others) ms (outwards (in_entries 0 es)) parts)) tied.1),
          )

-- ---- what is within stays in order

under_kept : (c : Change) (d : ℕ) (name : List ℕ) (es : Entries)
    → is_absent name (entries_by c d es) ≡ is_absent name es
under_kept c d name no_entry = refl
under_kept c d name (entry n e m es) = one (bytes_eq name n) (under_kept c d name es)
  where
    one : (b : Bool) → is_absent name (entries_by c d es) ≡ is_absent name es
        → not (is_some (if b then Some (entity_by c d e, c.mark m) else under name (entries_by c d es))) ≡ not
        (is_some (if b then Some (e, m) else under name es))
    one true rest = refl
    one false rest = rest

module _ (f g : Name → Name) (mark : Bool → Bool) where
  name_near : (h : Name → Name) (i : ℕ) (n : Name) → ((outside h (suc i) n).out == 0) ≡ true → (n.out == 0) ≡ true
  name_near h i n e = one (nat_lt n.out (suc i)) refl e
    where
      one : (b : Bool) → nat_lt n.out (suc i) ≡ b → ((outside h (suc i) n).out == 0) ≡ true → (n.out == 0) ≡ true
      one true lt k =
          subst (λ b. ((if b then n else record {
            out = (h (record { out = n.out - suc i; number = n.number })).out +
                suc i;
            number = (h (record { out = n.out - suc i; number = n.number })).number;
          }).out == 0) ≡ true) lt k
      one false ge k =
          let m : Name = h (record { out = n.out - suc i; number = n.number }) in
          let later : (m.out + suc i == 0) ≡ true = subst
          (λ b. ((if b then n else record { out = m.out + suc i; number = m.number }).out == 0) ≡ true) ge k in
          absurd (grind arith)

  near_back : (i : ℕ) (t : Thing) → is_near (thing_by f g mark (suc i) t) ≡ true → is_near t ≡ true
  near_back i t h = one t.is_type refl
    where
      one : (b : Bool) → t.is_type ≡ b → is_near t ≡ true
      one true e =
          name_near g i (record { out = t.out; number = t.number })
          (subst (λ b. ((if b then outside g (suc i) (record { out = t.out; number = t.number }) else outside f (suc i)
          (record { out = t.out; number = t.number })).out == 0) ≡ true) e h)
      one false e =
          name_near f i (record { out = t.out; number = t.number })
          (subst (λ b. ((if b then outside g (suc i) (record { out = t.out; number = t.number }) else outside f (suc i)
          (record { out = t.out; number = t.number })).out == 0) ≡ true) e h)

  asks_all : (i : ℕ) (ts : List Thing) → AllByRecursion (Asks f g mark (suc i) is_near is_near []) ts
  asks_all i [] = tt
  asks_all i (t ∷ ts) = ((λ o. inr (near_back i t o)), asks_all i ts)

  -- each type keeps the name of its place, under another name
  value_placed : (i : ℕ) (t : ValueTree) → HasPlace t → HasPlace (value_by (naming f g mark) i t)
  value_placed i (RecordOf (Some n) fields) h = h
  value_placed i (VariantOf (Some n) cases) h = h
  value_placed i (FlagsOf (Some n) labels) h = h
  value_placed i (EnumOf (Some n) labels) h = h
  value_placed i (RecordOf None fields) h = h
  value_placed i (VariantOf None cases) h = h
  value_placed i (FlagsOf None labels) h = h
  value_placed i (EnumOf None labels) h = h
  value_placed i (Primitive p) h = h
  value_placed i (TupleOf ts) h = h
  value_placed i (ListOf t) h = h
  value_placed i (OptionOf t) h = h
  value_placed i (ResultOf ok err) h = h
  value_placed i (Own r) h = h
  value_placed i (Borrow r) h = h

  mutual
    pub entity_placed : (i : ℕ) (e : EntityTree) → HasPlaces e → HasPlaces (entity_by (naming f g mark) i e)
    entity_placed i (IsType (Value t)) h = value_placed i t h
    entity_placed i (IsType (Resource r)) h = tt
    entity_placed i (IsType (Func x)) h = tt
    entity_placed i (IsType (Instance es)) h = tt
    entity_placed i (IsType (Component is es)) h = tt
    entity_placed i (IsFunc x) h = tt
    entity_placed i (IsInstance es) h = entries_placed i es h
    entity_placed i (IsComponent is es) h = tt
    entity_placed i (IsModule m) h = tt
    entity_placed i IsOwnModule h = tt

    pub entries_placed : (i : ℕ) (es : Entries) → HavePlaces es → HavePlaces (entries_by (naming f g mark) i es)
    entries_placed i no_entry h = tt
    entries_placed i (entry name e m es) h = (entity_placed i e h.0, entries_placed i es h.1)

  mutual
    type_ordered : (i : ℕ) (t : TypeShapeTree) → TypeOrdered t → Ordered (entity_by (naming f g mark) i (IsType t))
    type_ordered i (Value t) h = tt
    type_ordered i (Resource r) h = tt
    type_ordered i (Func x) h = tt
    type_ordered i (Instance es) h = (
      entries_tied f g mark (suc i) is_near is_near [] [] es (λ t o k. absurd cc)
          (asks_all i (outwards (in_entries 0 es))) h.0,
      entries_ordered (suc i) es h.1,
      entries_placed (suc i) es h.2,
    )
    type_ordered i (Component is es) h = (entries_ordered (suc (suc i)) is h.0, entries_ordered (suc (suc i)) es h.1)

    pub entity_ordered : (i : ℕ) (e : EntityTree) → Ordered e → Ordered (entity_by (naming f g mark) i e)
    entity_ordered i (IsType t) h = type_ordered i t h
    entity_ordered i (IsFunc x) h = tt
    entity_ordered i (IsInstance es) h = entries_ordered i es h
    entity_ordered i (IsComponent is es) h =
        (entries_ordered (suc (suc i)) is h.0, entries_ordered (suc (suc i)) es h.1)
    entity_ordered i (IsModule m) h = tt
    entity_ordered i IsOwnModule h = tt

    pub entries_ordered : (i : ℕ) (es : Entries) → AreOrdered es → AreOrdered (entries_by (naming f g mark) i es)
    entries_ordered i no_entry h = tt
    entries_ordered i (entry name e m es) h =
        (under_kept (naming f g mark) i name es ∙ h.0, entity_ordered i e h.1, entries_ordered i es h.2)
