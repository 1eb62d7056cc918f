-- What trees mention, where names are changed, and from further in.
use Rattle.std.proofs.Common.{◌≡◌, ◌+◌, ◌-◌, ℕ, suc, Bool, true, false, List, [], ◌∷◌, ◌++◌, map, Option, Some, None, refl, sym, ap, subst, ◌∙◌, arith}
use Rattle.std.specs.Prelude.{flat_map, nat_le, nat_lt, option_map, option_to_list, if◌then◌else◌}
use Rattle.std.specs.List.{AllByRecursion}
use Rattle.std.proofs.lemmas.Bool.{le-leb}
use Rattle.std.proofs.lemmas.Grind.{flat_map-append}
use Rattle.std.proofs.lemmas.List.{map-append}
use Rattle.comp_entity.specs.Entity.{Name, ValueTree, Primitive, TupleOf, RecordOf, VariantOf, ListOf, FlagsOf, EnumOf, OptionOf, ResultOf, Own, Borrow, ValueTrees, none, more, Cases, no_case, labelled, Payload, absent, present, FuncTree, TypeShapeTree, Value, Resource, Func, Instance, Component, EntityTree, IsType, IsFunc, IsInstance, IsComponent, IsModule, IsOwnModule, Entries, no_entry, entry}
use Rattle.comp_entity.specs.Names.{Change, outside, place_by, value_by, values_by, cases_by, payload_by, func_by, type_by, entity_by, entries_by, Mention, OfResource, OfPlace, at_place, in_value, in_values, in_cases, in_payload, in_func, in_type, in_entity, in_entries}
use Rattle.compose_left.specs.declared.spots.Thing.{Thing}
use Rattle.compose_needs.specs.DeepLaws.{deepen, deepened, entries_deep}
use Rattle.compose_needs.specs.Mentioned.{around, outward, outwards}
use Rattle.compose_shapes.proofs.Things.{front, back, joined}

abbrev pub called : Bool → Name → Thing
called is_type n = record { is_type = is_type; out = n.out; number = n.number }

-- ---- where names are changed

module _ (f g : Name → Name) (mark : Bool → Bool) where
  abbrev pub naming : Change
  naming = record { resource = outside f; place = λ d n. Some (outside g d n); mark = mark }

  module _ (i : ℕ) where
    abbrev pub moved : ℕ × Mention → ℕ × Mention
    moved (d, OfResource n) = (d, OfResource (outside f (d + i) n))
    moved (d, OfPlace n) = (d, OfPlace (outside g (d + i) n))

    abbrev pub moves : List (ℕ × Mention) → List (ℕ × Mention)
    moves ms = map moved ms

    both : (xs ys zs ws : List (ℕ × Mention)) → xs ≡ moves ys → zs ≡ moves ws → xs ++ zs ≡ moves (ys ++ ws)
    both xs ys zs ws a b = (λ i. a i ++ b i) ∙ sym (map-append moved ys ws)

    place_moves : (d : ℕ) (p : Option Name) → at_place d (place_by naming (d + i) p) ≡ moves (at_place d p)
    place_moves d None = refl
    place_moves d (Some n) = refl

    mutual
      value_moves : (d : ℕ) (t : ValueTree) → in_value d (value_by naming (d + i) t) ≡ moves (in_value d t)
      value_moves d (Primitive p) = refl
      value_moves d (TupleOf ts) = values_moves d ts
      value_moves d (RecordOf p cs) =
          both (at_place d (place_by naming (d + i) p)) (at_place d p) (in_cases d (cases_by naming (d + i) cs))
          (in_cases d cs) (place_moves d p) (cases_moves d cs)
      value_moves d (VariantOf p cs) =
          both (at_place d (place_by naming (d + i) p)) (at_place d p) (in_cases d (cases_by naming (d + i) cs))
          (in_cases d cs) (place_moves d p) (cases_moves d cs)
      value_moves d (ListOf t) = value_moves d t
      value_moves d (FlagsOf p ls) = place_moves d p
      value_moves d (EnumOf p ls) = place_moves d p
      value_moves d (OptionOf t) = value_moves d t
      value_moves d (ResultOf ok err) =
          both (in_payload d (payload_by naming (d + i) ok)) (in_payload d ok)
          (in_payload d (payload_by naming (d + i) err)) (in_payload d err) (payload_moves d ok) (payload_moves d err)
      value_moves d (Own r) = refl
      value_moves d (Borrow r) = refl

      values_moves : (d : ℕ) (ts : ValueTrees) → in_values d (values_by naming (d + i) ts) ≡ moves (in_values d ts)
      values_moves d none = refl
      values_moves d (more t ts) =
          both (in_value d (value_by naming (d + i) t)) (in_value d t) (in_values d (values_by naming (d + i) ts))
          (in_values d ts) (value_moves d t) (values_moves d ts)

      cases_moves : (d : ℕ) (cs : Cases) → in_cases d (cases_by naming (d + i) cs) ≡ moves (in_cases d cs)
      cases_moves d no_case = refl
      cases_moves d (labelled label p cs) =
          both (in_payload d (payload_by naming (d + i) p)) (in_payload d p) (in_cases d (cases_by naming (d + i) cs))
          (in_cases d cs) (payload_moves d p) (cases_moves d cs)

      payload_moves : (d : ℕ) (p : Payload) → in_payload d (payload_by naming (d + i) p) ≡ moves (in_payload d p)
      payload_moves d absent = refl
      payload_moves d (present t) = value_moves d t

    params_moves : (d : ℕ) (ps : List (List ℕ × ValueTree))
        → flat_map (λ (p : List ℕ × ValueTree). in_value d p.1)
        (map (λ (p : List ℕ × ValueTree). (p.0, value_by naming (d + i) p.1)) ps) ≡ moves
        (flat_map (λ (p : List ℕ × ValueTree). in_value d p.1) ps)
    params_moves d [] = refl
    params_moves d (p ∷ ps) =
        both (in_value d (value_by naming (d + i) p.1)) (in_value d p.1)
        (flat_map (λ (p : List ℕ × ValueTree). in_value d p.1)
        (map (λ (p : List ℕ × ValueTree). (p.0, value_by naming (d + i) p.1)) ps))
        (flat_map (λ (p : List ℕ × ValueTree). in_value d p.1) ps) (value_moves d p.1) (params_moves d ps)

    result_moves : (d : ℕ) (r : Option ValueTree)
        → flat_map (in_value d) (option_to_list (option_map (value_by naming (d + i)) r)) ≡ moves
        (flat_map (in_value d) (option_to_list r))
    result_moves d None = refl
    result_moves d (Some t) = both (in_value d (value_by naming (d + i) t)) (in_value d t) [] [] (value_moves d t) refl

    func_moves : (d : ℕ) (x : FuncTree) → in_func d (func_by naming (d + i) x) ≡ moves (in_func d x)
    func_moves d x =
        both (flat_map (λ (p : List ℕ × ValueTree). in_value d p.1)
        (map (λ (p : List ℕ × ValueTree). (p.0, value_by naming (d + i) p.1)) x.params))
        (flat_map (λ (p : List ℕ × ValueTree). in_value d p.1) x.params)
        (flat_map (in_value d) (option_to_list (option_map (value_by naming (d + i)) x.result)))
        (flat_map (in_value d) (option_to_list x.result))
        (params_moves d x.params) (result_moves d x.result)

    pub none_in : i ≡ 0 + i
    none_in = omega arith

    one_in : (d : ℕ) → suc (d + i) ≡ suc d + i
    one_in d = omega arith

    two_in : (d : ℕ) → suc (suc (d + i)) ≡ suc (suc d) + i
    two_in d = omega arith

    mutual
      type_moves : (d : ℕ) (t : TypeShapeTree) → in_type d (type_by naming (d + i) t) ≡ moves (in_type d t)
      type_moves d (Value t) = value_moves d t
      type_moves d (Resource r) = refl
      type_moves d (Func x) = func_moves d x
      type_moves d (Instance es) =
          ap (λ k. in_entries (suc d) (entries_by naming k es)) (one_in d) ∙ entries_moves (suc d) es
      type_moves d (Component is es) =
          ap (λ k. in_entries (suc (suc d)) (entries_by naming k is)
          ++ in_entries (suc (suc d)) (entries_by naming k es)) (two_in d)
          ∙ both (in_entries (suc (suc d)) (entries_by naming (suc (suc d) + i) is)) (in_entries (suc (suc d)) is)
          (in_entries (suc (suc d)) (entries_by naming (suc (suc d) + i) es)) (in_entries (suc (suc d)) es)
          (entries_moves (suc (suc d)) is) (entries_moves (suc (suc d)) es)

      pub entity_moves : (d : ℕ) (e : EntityTree) → in_entity d (entity_by naming (d + i) e) ≡ moves (in_entity d e)
      entity_moves d (IsType t) = type_moves d t
      entity_moves d (IsFunc x) = func_moves d x
      entity_moves d (IsInstance es) = entries_moves d es
      entity_moves d (IsComponent is es) =
          ap (λ k. in_entries (suc (suc d)) (entries_by naming k is)
          ++ in_entries (suc (suc d)) (entries_by naming k es)) (two_in d)
          ∙ both (in_entries (suc (suc d)) (entries_by naming (suc (suc d) + i) is)) (in_entries (suc (suc d)) is)
          (in_entries (suc (suc d)) (entries_by naming (suc (suc d) + i) es)) (in_entries (suc (suc d)) es)
          (entries_moves (suc (suc d)) is) (entries_moves (suc (suc d)) es)
      entity_moves d (IsModule m) = refl
      entity_moves d IsOwnModule = refl

      pub entries_moves : (d : ℕ) (es : Entries) → in_entries d (entries_by naming (d + i) es) ≡ moves (in_entries d es)
      entries_moves d no_entry = refl
      entries_moves d (entry name e m es) =
          both (in_entity d (entity_by naming (d + i) e)) (in_entity d e) (in_entries d (entries_by naming (d + i) es))
          (in_entries d es) (entity_moves d e) (entries_moves d es)

    -- ---- the things that are mentioned

    abbrev pub name_of : Thing → Name
    name_of t = record { out = t.out; number = t.number }

    abbrev pub thing_by : Thing → Thing
    thing_by t = called t.is_type (if t.is_type then outside g i (name_of t) else outside f i (name_of t))

    around_moves : (b : Bool) (h : Name → Name) (d : ℕ) (n : Name)
        → around (called b) d (outside h (d + i) n) ≡ map (λ (t : Thing). called b (outside h i (name_of t)))
        (around (called b) d n)
    around_moves b h d n = one (nat_le d n.out) (nat_lt n.out (d + i)) refl refl
      where
        one : (x y : Bool) → nat_le d n.out ≡ x → nat_lt n.out (d + i) ≡ y
            → around (called b) d (outside h (d + i) n) ≡ map (λ (t : Thing). called b (outside h i (name_of t)))
            (if x then called b (record { out = n.out - d; number = n.number }) ∷ [] else [])
        one false true e lt = rw (lt, e) refl
        one false false e ge = absurd (grind arith)
        one true true e lt =
            let near : nat_lt (n.out - d) i ≡ true = grind arith in
            rw (lt, e, near) refl
        one true false e ge =
            let m : Name = h (record { out = n.out - (d + i); number = n.number }) in
            let there : nat_le d (m.out + (d + i)) ≡ true = le-leb d (m.out + (d + i)) (omega arith) in
            let far : nat_lt (n.out - d) i ≡ false = grind arith in
            let same : n.out - d - i ≡ n.out - (d + i) = omega arith in
            let out : m.out + (d + i) - d ≡ m.out + i = omega arith in
            rw (ge, there, far, same, out) refl

    outward_moves : (m : ℕ × Mention) → outward (moved m) ≡ map thing_by (outward m)
    outward_moves (d, OfResource n) = around_moves false f d n ∙ some (nat_le d n.out)
      where
        some : (x : Bool) → map (λ (t : Thing). called false (outside f i (name_of t)))
            (if x then called false (record { out = n.out - d; number = n.number }) ∷ [] else []) ≡ map thing_by
            (if x then called false (record { out = n.out - d; number = n.number }) ∷ [] else [])
        some true = refl
        some false = refl
    outward_moves (d, OfPlace n) = around_moves true g d n ∙ some (nat_le d n.out)
      where
        some : (x : Bool) → map (λ (t : Thing). called true (outside g i (name_of t)))
            (if x then called true (record { out = n.out - d; number = n.number }) ∷ [] else []) ≡ map thing_by
            (if x then called true (record { out = n.out - d; number = n.number }) ∷ [] else [])
        some true = refl
        some false = refl

    outwards_moves : (ms : List (ℕ × Mention)) → outwards (moves ms) ≡ map thing_by (outwards ms)
    outwards_moves [] = refl
    outwards_moves (m ∷ ms) =
        (λ j. outward_moves m j ++ outwards_moves ms j) ∙ sym (map-append thing_by (outward m) (outwards ms))

    -- what an entity, and entries, mention of the scopes around them, with other names
    pub entity_mentions : (e : EntityTree) → outwards (in_entity 0 (entity_by naming i e)) ≡ map thing_by
        (outwards (in_entity 0 e))
    entity_mentions e =
        ap outwards (ap (λ k. in_entity 0 (entity_by naming k e)) none_in ∙ entity_moves 0 e)
        ∙ outwards_moves (in_entity 0 e)

    pub entries_mention : (es : Entries) → outwards (in_entries 0 (entries_by naming i es)) ≡ map thing_by
        (outwards (in_entries 0 es))
    entries_mention es =
        ap outwards (ap (λ k. in_entries 0 (entries_by naming k es)) none_in ∙ entries_moves 0 es)
        ∙ outwards_moves (in_entries 0 es)

-- ---- what holds of things one scope further out

abbrev pub Further : (Thing → Type 0) → Thing → Type 0
Further P t = (k : ℕ) → t.out ≡ suc k → P (record t { out = k })

abbrev pub AllThings : (Thing → Type 0) → List (ℕ × Mention) → Type 0
AllThings P ms = AllByRecursion P (outwards ms)

module _ (P : Thing → Type 0) where
  around_in : (b : Bool) (d : ℕ) (n : Name) → AllByRecursion P (around (called b) (suc d) n)
      → AllByRecursion (Further P) (around (called b) d n)
  around_in b d n h = one (nat_le d n.out)
    where
      one : (x : Bool) → AllByRecursion (Further P)
          (if x then called b (record { out = n.out - d; number = n.number }) ∷ [] else [])
      one false = tt
      one true = (
        (λ k e.
            let past : nat_le (suc d) n.out ≡ true = le-leb (suc d) n.out (omega (arith, e)) in
            let less : n.out - suc d ≡ k = omega (arith, e) in
            let here = subst (λ c. AllByRecursion P (if c then called b
            (record { out = n.out - suc d; number = n.number }) ∷ [] else [])) past h in
            subst (λ o. P (called b (record { out = o; number = n.number }))) less here.0),
        tt,
      )

  around_out : (b : Bool) (d : ℕ) (n : Name) → AllByRecursion (Further P) (around (called b) d n)
      → AllByRecursion P (around (called b) (suc d) n)
  around_out b d n h = one (nat_le (suc d) n.out) refl
    where
      one : (x : Bool) → nat_le (suc d) n.out ≡ x
          → AllByRecursion P (if x then called b (record { out = n.out - suc d; number = n.number }) ∷ [] else [])
      one false e = tt
      one true e =
          let there : nat_le d n.out ≡ true = grind arith in
          let here = subst (λ c. AllByRecursion (Further P) (if c then called b
          (record { out = n.out - d; number = n.number }) ∷ [] else [])) there h in
          let suc_is : n.out - d ≡ suc (n.out - suc d) = grind arith in
          (here.0 (n.out - suc d) suc_is, tt)

  outward_in : (m : ℕ × Mention) → AllByRecursion P (outward (deepen m)) → AllByRecursion (Further P) (outward m)
  outward_in (d, OfResource n) h = around_in false d n h
  outward_in (d, OfPlace n) h = around_in true d n h

  outward_out : (m : ℕ × Mention) → AllByRecursion (Further P) (outward m) → AllByRecursion P (outward (deepen m))
  outward_out (d, OfResource n) h = around_out false d n h
  outward_out (d, OfPlace n) h = around_out true d n h

  all_in : (ms : List (ℕ × Mention)) → AllThings P (deepened ms) → AllThings (Further P) ms
  all_in [] h = tt
  all_in (m ∷ ms) h =
      joined (Further P) (outward m) (outwards ms)
      (outward_in m (front P (outward (deepen m)) (outwards (deepened ms)) h))
      (all_in ms (back P (outward (deepen m)) (outwards (deepened ms)) h))

  all_out : (ms : List (ℕ × Mention)) → AllThings (Further P) ms → AllThings P (deepened ms)
  all_out [] h = tt
  all_out (m ∷ ms) h =
      joined P (outward (deepen m)) (outwards (deepened ms))
      (outward_out m (front (Further P) (outward m) (outwards ms) h))
      (all_out ms (back (Further P) (outward m) (outwards ms) h))

  -- entries within a scope mention what may be mentioned around it
  pub entries_in : (d : ℕ) (es : Entries) → AllThings P (in_entries (suc d) es)
      → AllThings (Further P) (in_entries d es)
  entries_in d es h = all_in (in_entries d es) (subst (AllThings P) (entries_deep d es) h)

  pub entries_out : (d : ℕ) (es : Entries) → AllThings (Further P) (in_entries d es)
      → AllThings P (in_entries (suc d) es)
  entries_out d es h = subst (AllThings P) (sym (entries_deep d es)) (all_out (in_entries d es) h)

pub outwards-append : (xs ys : List (ℕ × Mention)) → outwards (xs ++ ys) ≡ outwards xs ++ outwards ys
outwards-append xs ys = flat_map-append outward xs ys
