-- Entities in which names of the scopes around them are changed: what they mention, and what stands in them.
use Rattle.std.proofs.Common.{◌≡◌, ◌⊎◌, inl, inr, ◌&&◌, ◌+◌, ◌-◌, ◌≤◌, ℕ, suc, Bool, true, false, List, [], ◌∷◌, ◌++◌, map, Option, Some, None, refl, sym, ap, ◌∙◌, arith}
use Rattle.std.specs.Prelude.{flat_map, filter, nat_le, nat_lt, option_map, option_to_list, if◌then◌else◌}
use Rattle.std.specs.List.{list_all}
use Rattle.std.proofs.lemmas.Bool.{and_from, and_parts, le-leb, leb-true, leb-false, lt-ltb, ltb-true, ltb-false, le-ltb}
use Rattle.std.proofs.lemmas.List.{map-append}
use Rattle.std.proofs.lemmas.List.Elements.{filter-append}
use Rattle.comp_entity.specs.Entity.{Name, ValueTree, Primitive, TupleOf, RecordOf, VariantOf, ListOf, FlagsOf, EnumOf, OptionOf, ResultOf, Own, Borrow, ValueTrees, none, more, Cases, no_case, labelled, Payload, absent, present, FuncTree, TypeShapeTree, Value, Resource, Func, Instance, Component, EntityTree, IsType, IsFunc, IsInstance, IsComponent, IsModule, IsOwnModule, Entries, no_entry, entry}
use Rattle.comp_entity.specs.Names.{Change, Mention, OfResource, OfPlace, at_place, changing, outside, deeper, place_by, value_by, values_by, cases_by, payload_by, func_by, type_by, entity_by, entries_by, in_value, in_values, in_cases, in_payload, in_func, in_type, in_entity, in_entries}
use Rattle.comp_entity.specs.Places.{Path, leaves_of, leaves_in}
use Rattle.compose_left.specs.declared.spots.Thing.{Thing}
use Rattle.compose_left.specs.Spots.{resource, named_type, named_by, placed_thing}
use Rattle.compose_needs.specs.Mentioned.{has, around, outward, outwards, mentioned}
use Rattle.compose_needs.specs.Leaves.{leaf_of, leaves_among}
use Rattle.compose_needs.specs.Tied.{are_sides_tied, are_tied, entity_holds_tied, entries_hold_tied, type_holds_tied}
use Rattle.compose_known.proofs.BehindLaws.{is_within, place_for}
use Rattle.compose_known.proofs.MentionLaws.{called, has_either, has_first, has_itself, has_one, has_then}

both_by : (f : ℕ × Mention → ℕ × Mention) (xs ys zs ws : List (ℕ × Mention)) → xs ≡ map f ys → zs ≡ map f ws
    → xs ++ zs ≡ map f (ys ++ ws)
both_by f xs ys zs ws a b = (λ i. a i ++ b i) ∙ sym (map-append f ys ws)

-- a name of a scope around stands for one of a scope around
outside_there : (f : Name → Name) (d : ℕ) (n : Name) → d ≤ n.out
    → outside f d n ≡ deeper d (f (record n { out = n.out - d }))
outside_there f d n le = ap (λ b. if b then n else deeper d (f (record n { out = n.out - d }))) (le-ltb n.out d le)

-- from where the entity stands, a name is what it is changed to
pub outside_here : (f : Name → Name) (n : Name) → outside f 0 n ≡ f n
outside_here f n =
    let same : n.out - 0 ≡ n.out = omega arith in
    let back : (m : Name) → (f m).out + 0 ≡ (f m).out = (λ m. omega arith) in
    outside_there f 0 n (omega arith)
    ∙ (λ j. record {
      out = back (record { out = same j; number = n.number }) j;
      number =
          (f (record { out = same j; number = n.number })).number;
    })

-- what holds of all that is near, where it implies another
all_near : (w : ℕ) (f g : Thing → Bool) (ts : List Thing)
    → ((t : Thing) → is_within w t ≡ true → f t ≡ true → g t ≡ true) → list_all f (filter (is_within w) ts) ≡ true
    → list_all g (filter (is_within w) ts) ≡ true
all_near w f g [] implies a = refl
all_near w f g (t ∷ ts) implies a = go (is_within w t) refl a (all_near w f g ts implies)
  where
    go : (b : Bool) → is_within w t ≡ b
        → list_all f (if b then t ∷ filter (is_within w) ts else filter (is_within w) ts) ≡ true
        → (list_all f (filter (is_within w) ts) ≡ true → list_all g (filter (is_within w) ts) ≡ true)
        → list_all g (if b then t ∷ filter (is_within w) ts else filter (is_within w) ts) ≡ true
    go true e a rest =
        let parts = and_parts (f t) (list_all f (filter (is_within w) ts)) a in
        and_from (g t) (list_all g (filter (is_within w) ts)) (implies t e parts.0) (rest parts.1)
    go false e a rest = rest a

module _ (r p : Name → Name) where
  abbrev pub change : Change
  change = changing r p

  -- ---- mentions of a tree that itself stands so many scopes deep

  abbrev pub mention_by : ℕ → ℕ × Mention → ℕ × Mention
  mention_by d (k, OfResource n) = (k, OfResource (outside r (k + d) n))
  mention_by d (k, OfPlace n) = (k, OfPlace (outside p (k + d) n))

  module _ (d : ℕ) where
    place_in : (j k : ℕ) (o : Option Name) → k ≡ j + d
        → at_place j (place_by change k o) ≡ map (mention_by d) (at_place j o)
    place_in j k None at = refl
    place_in j k (Some n) at = ap (λ k. (j, OfPlace (outside p k n)) ∷ []) at

    resource_in : (j k : ℕ) (n : Name) → k ≡ j + d
        → (j, OfResource (outside r k n)) ∷ [] ≡ map (mention_by d) ((j, OfResource n) ∷ [])
    resource_in j k n at = ap (λ k. (j, OfResource (outside r k n)) ∷ []) at

    mutual
      value_in : (j k : ℕ) (t : ValueTree) → k ≡ j + d
          → in_value j (value_by change k t) ≡ map (mention_by d) (in_value j t)
      value_in j k (Primitive x) at = refl
      value_in j k (TupleOf ts) at = values_in j k ts at
      value_in j k (RecordOf o cs) at =
          both_by (mention_by d) (at_place j (place_by change k o)) (at_place j o) (in_cases j (cases_by change k cs))
          (in_cases j cs) (place_in j k o at) (cases_in j k cs at)
      value_in j k (VariantOf o cs) at =
          both_by (mention_by d) (at_place j (place_by change k o)) (at_place j o) (in_cases j (cases_by change k cs))
          (in_cases j cs) (place_in j k o at) (cases_in j k cs at)
      value_in j k (ListOf t) at = value_in j k t at
      value_in j k (FlagsOf o ls) at = place_in j k o at
      value_in j k (EnumOf o ls) at = place_in j k o at
      value_in j k (OptionOf t) at = value_in j k t at
      value_in j k (ResultOf ok err) at =
          both_by (mention_by d) (in_payload j (payload_by change k ok)) (in_payload j ok)
          (in_payload j (payload_by change k err)) (in_payload j err) (payload_in j k ok at) (payload_in j k err at)
      value_in j k (Own n) at = resource_in j k n at
      value_in j k (Borrow n) at = resource_in j k n at

      values_in : (j k : ℕ) (ts : ValueTrees) → k ≡ j + d
          → in_values j (values_by change k ts) ≡ map (mention_by d) (in_values j ts)
      values_in j k none at = refl
      values_in j k (more t ts) at =
          both_by (mention_by d) (in_value j (value_by change k t)) (in_value j t) (in_values j (values_by change k ts))
          (in_values j ts) (value_in j k t at) (values_in j k ts at)

      cases_in : (j k : ℕ) (cs : Cases) → k ≡ j + d
          → in_cases j (cases_by change k cs) ≡ map (mention_by d) (in_cases j cs)
      cases_in j k no_case at = refl
      cases_in j k (labelled label x cs) at =
          both_by (mention_by d) (in_payload j (payload_by change k x)) (in_payload j x)
          (in_cases j (cases_by change k cs)) (in_cases j cs) (payload_in j k x at) (cases_in j k cs at)

      payload_in : (j k : ℕ) (x : Payload) → k ≡ j + d
          → in_payload j (payload_by change k x) ≡ map (mention_by d) (in_payload j x)
      payload_in j k absent at = refl
      payload_in j k (present t) at = value_in j k t at

    abbrev in_param : ℕ → List ℕ × ValueTree → List (ℕ × Mention)
    in_param j x = in_value j x.1

    abbrev param_by : ℕ → List ℕ × ValueTree → List ℕ × ValueTree
    param_by k x = (x.0, value_by change k x.1)

    params_in : (j k : ℕ) (xs : List (List ℕ × ValueTree)) → k ≡ j + d
        → flat_map (in_param j) (map (param_by k) xs) ≡ map (mention_by d) (flat_map (in_param j) xs)
    params_in j k [] at = refl
    params_in j k (x ∷ xs) at =
        both_by (mention_by d) (in_param j (param_by k x)) (in_param j x) (flat_map (in_param j) (map (param_by k) xs))
        (flat_map (in_param j) xs) (value_in j k x.1 at) (params_in j k xs at)

    result_in : (j k : ℕ) (o : Option ValueTree) → k ≡ j + d
        → flat_map (in_value j) (option_to_list (option_map (value_by change k) o))
        ≡ map (mention_by d) (flat_map (in_value j) (option_to_list o))
    result_in j k None at = refl
    result_in j k (Some t) at =
        both_by (mention_by d) (in_value j (value_by change k t)) (in_value j t) [] [] (value_in j k t at) refl

    func_in : (j k : ℕ) (f : FuncTree) → k ≡ j + d → in_func j (func_by change k f) ≡ map (mention_by d) (in_func j f)
    func_in j k f at =
        both_by (mention_by d) (flat_map (in_param j) (map (param_by k) f.params)) (flat_map (in_param j) f.params)
        (flat_map (in_value j) (option_to_list (option_map (value_by change k) f.result)))
        (flat_map (in_value j) (option_to_list f.result)) (params_in j k f.params at) (result_in j k f.result at)

    mutual
      type_in : (j k : ℕ) (t : TypeShapeTree) → k ≡ j + d
          → in_type j (type_by change k t) ≡ map (mention_by d) (in_type j t)
      type_in j k (Value t) at = value_in j k t at
      type_in j k (Resource n) at = resource_in j k n at
      type_in j k (Func f) at = func_in j k f at
      type_in j k (Instance es) at = entries_changed (suc j) (suc k) es (omega (arith, at))
      type_in j k (Component is es) at =
          both_by (mention_by d) (in_entries (suc (suc j)) (entries_by change (suc (suc k)) is))
          (in_entries (suc (suc j)) is) (in_entries (suc (suc j)) (entries_by change (suc (suc k)) es))
          (in_entries (suc (suc j)) es)
          (entries_changed (suc (suc j)) (suc (suc k)) is (omega (arith, at)))
          (entries_changed (suc (suc j)) (suc (suc k)) es (omega (arith, at)))

      pub entity_changed : (j k : ℕ) (e : EntityTree) → k ≡ j + d
          → in_entity j (entity_by change k e) ≡ map (mention_by d) (in_entity j e)
      entity_changed j k (IsType t) at = type_in j k t at
      entity_changed j k (IsFunc f) at = func_in j k f at
      entity_changed j k (IsInstance es) at = entries_changed j k es at
      entity_changed j k (IsComponent is es) at =
          both_by (mention_by d) (in_entries (suc (suc j)) (entries_by change (suc (suc k)) is))
          (in_entries (suc (suc j)) is) (in_entries (suc (suc j)) (entries_by change (suc (suc k)) es))
          (in_entries (suc (suc j)) es)
          (entries_changed (suc (suc j)) (suc (suc k)) is (omega (arith, at)))
          (entries_changed (suc (suc j)) (suc (suc k)) es (omega (arith, at)))
      entity_changed j k (IsModule m) at = refl
      entity_changed j k IsOwnModule at = refl

      entries_changed : (j k : ℕ) (es : Entries) → k ≡ j + d
          → in_entries j (entries_by change k es) ≡ map (mention_by d) (in_entries j es)
      entries_changed j k no_entry at = refl
      entries_changed j k (entry name e mark es) at =
          both_by (mention_by d) (in_entity j (entity_by change k e)) (in_entity j e)
          (in_entries j (entries_by change k es)) (in_entries j es) (entity_changed j k e at)
          (entries_changed j k es at)

  -- ---- what is mentioned

  -- a thing as it is called then
  abbrev pub changed : Thing → Thing
  changed t = if t.is_type then named_type (p (record { out = t.out; number = t.number })) else resource
      (r (record { out = t.out; number = t.number }))

  -- it stands for one that was mentioned
  pub record IsChanged (ts : List Thing) (t : Thing) : Type 0 where
    pub before : Thing
    pub among : has ts before ≡ true
    pub is : t ≡ changed before

  changed_around : (thing : Name → Thing) (f : Name → Name) → ((n : Name) → changed (thing n) ≡ thing (f n))
      → (k : ℕ) (n : Name) (t : Thing)
      → has (around thing k (outside f (k + 0) n)) t ≡ true → IsChanged (around thing k n) t
  changed_around thing f is k n t h = go (nat_le k n.out) refl
    where
      m : Name
      m = record { out = n.out - k; number = n.number }

      none : (b : Bool) (x : Thing) → b ≡ false → has (if b then x ∷ [] else []) t ≡ true → ⊥
      none true x e h = absurd cc
      none false x e h = absurd cc

      go : (b : Bool) → nat_le k n.out ≡ b → IsChanged (around thing k n) t
      go true e =
          let there : k + 0 ≤ n.out = (let le = leb-true k n.out e in omega (arith, le)) in
          let same : n.out - (k + 0) ≡ n.out - k = omega arith in
          let moved : outside f (k + 0) n ≡ deeper k (f m) =
          outside_there f (k + 0) n there
          ∙ (λ j. let g =
          f (record { out = same j; number = n.number }) in let deep : g.out + (k + 0) ≡ g.out + k =
          omega arith in record { out = deep j; number = g.number }) in
          let far : nat_le k ((f m).out + k) ≡ true = le-leb k ((f m).out + k) (omega arith) in
          let back : (f m).out + k - k ≡ (f m).out = omega arith in
          let h : has (around thing k (deeper k (f m))) t ≡ true = ap (λ x. has (around thing k x) t) (sym moved) ∙ h in
          let h : has (thing (record { out = (f m).out + k - k; number = (f m).number }) ∷ []) t ≡ true =
          ap (λ b. has (if b then thing (record { out = (f m).out + k - k; number = (f m).number }) ∷ [] else []) t)
          (sym far) ∙ h in
          record {
            before = thing m;
            among = ap (λ b. has (if b then thing m ∷ [] else []) (thing m)) e ∙ has_itself (thing m) [];
            is = sym (has_one (thing (record { out = (f m).out + k - k; number = (f m).number })) t h)
                ∙ (λ j. thing (record { out = back j; number = (f m).number })) ∙ sym (is m);
          }
      go false e =
          let below = leb-false k n.out e in
          let lt : nat_lt n.out (k + 0) ≡ true = lt-ltb n.out (k + 0) (omega (arith, below)) in
          let stays : outside f (k + 0) n
          ≡ n = ap (λ b. if b then n else deeper (k + 0) (f (record n { out = n.out - (k + 0) }))) lt in
          absurd (none (nat_le k n.out) (thing m) e (ap (λ x. has (around thing k x) t) (sym stays) ∙ h))

  changed_resource : (n : Name) → changed (resource n) ≡ resource (r n)
  changed_resource n = refl

  changed_type : (n : Name) → changed (named_type n) ≡ named_type (p n)
  changed_type n = refl

  outward_changed : (x : ℕ × Mention) (t : Thing) → has (outward (mention_by 0 x)) t ≡ true → IsChanged (outward x) t
  outward_changed (k, OfResource n) t h = changed_around resource r changed_resource k n t h
  outward_changed (k, OfPlace n) t h = changed_around named_type p changed_type k n t h

  outwards_changed : (xs : List (ℕ × Mention)) (t : Thing) → has (outwards (map (mention_by 0) xs)) t ≡ true
      → IsChanged (outwards xs) t
  outwards_changed [] t h = absurd cc
  outwards_changed (x ∷ xs) t h =
      go (has_either (outward (mention_by 0 x)) (outwards (map (mention_by 0) xs)) t h) (outwards_changed xs t)
    where
      go : (has (outward (mention_by 0 x)) t ≡ true) ⊎ (has (outwards (map (mention_by 0) xs)) t ≡ true)
          → (has (outwards (map (mention_by 0) xs)) t ≡ true → IsChanged (outwards xs) t)
          → IsChanged (outward x ++ outwards xs) t
      go (inl k) rest =
          let c = outward_changed x t k in record {
            before = c.before;
            among = has_first (outward x)
                (outwards xs) c.before c.among;
            is = c.is;
          }
      go (inr k) rest =
          let c = rest k in record {
            before = c.before;
            among = has_then (outward x)
                (outwards xs) c.before c.among;
            is = c.is;
          }

  -- what is mentioned now was mentioned, as it was called before
  pub changed_mentions : (e : EntityTree) (t : Thing) → has (mentioned (entity_by change 0 e)) t ≡ true
      → IsChanged (mentioned e) t
  changed_mentions e t h =
      outwards_changed (in_entity 0 e) t (ap (λ xs. has (outwards xs) t)
      (sym (entity_changed 0 0 0 e (omega arith))) ∙ h)

  -- ---- what stands in it

  abbrev pub leaf_by : ℕ → Path × EntityTree → Path × EntityTree
  leaf_by k x = (x.0, entity_by change k x.1)

  mutual
    pub leaves_changed : (k : ℕ) (path : Path) (e : EntityTree)
        → leaves_of path (entity_by change k e) ≡ map (leaf_by k) (leaves_of path e)
    leaves_changed k path (IsType t) = refl
    leaves_changed k path (IsFunc f) = refl
    leaves_changed k path (IsInstance es) = among_changed k path es
    leaves_changed k path (IsComponent is es) = refl
    leaves_changed k path (IsModule m) = refl
    leaves_changed k path IsOwnModule = refl

    pub among_changed : (k : ℕ) (path : Path) (es : Entries)
        → leaves_in path (entries_by change k es) ≡ map (leaf_by k) (leaves_in path es)
    among_changed k path no_entry = refl
    among_changed k path (entry name e mark es) =
        (λ i. leaves_changed k (path ++ name ∷ []) e i ++ among_changed k path es i)
        ∙ sym (map-append (leaf_by k) (leaves_of (path ++ name ∷ []) e) (leaves_in path es))

  -- a thing, as it is called so many scopes within
  abbrev pub thing_by : ℕ → Thing → Thing
  thing_by k t =
      if t.is_type then named_type (outside p k (record { out = t.out; number = t.number })) else resource
      (outside r k (record { out = t.out; number = t.number }))

  place_named : (k : ℕ) (o : Option Name)
      → option_map named_type (place_by change k o) ≡ option_map (thing_by k) (option_map named_type o)
  place_named k None = refl
  place_named k (Some n) = refl

  value_named : (k : ℕ) (t : ValueTree) → placed_thing (value_by change k t) ≡ option_map (thing_by k) (placed_thing t)
  value_named k (Primitive x) = refl
  value_named k (TupleOf ts) = refl
  value_named k (RecordOf o cs) = place_named k o
  value_named k (VariantOf o cs) = place_named k o
  value_named k (ListOf t) = refl
  value_named k (FlagsOf o ls) = place_named k o
  value_named k (EnumOf o ls) = place_named k o
  value_named k (OptionOf t) = refl
  value_named k (ResultOf ok err) = refl
  value_named k (Own n) = refl
  value_named k (Borrow n) = refl

  pub named_changed : (k : ℕ) (e : EntityTree) → named_by (entity_by change k e) ≡ option_map (thing_by k) (named_by e)
  named_changed k (IsType (Value t)) = value_named k t
  named_changed k (IsType (Resource n)) = refl
  named_changed k (IsType (Func f)) = refl
  named_changed k (IsType (Instance es)) = refl
  named_changed k (IsType (Component is es)) = refl
  named_changed k (IsFunc f) = refl
  named_changed k (IsInstance es) = refl
  named_changed k (IsComponent is es) = refl
  named_changed k (IsModule m) = refl
  named_changed k IsOwnModule = refl

  pub thing_here : (t : Thing) → thing_by 0 t ≡ changed t
  thing_here t = go t.is_type
    where
      n : Name
      n = record { out = t.out; number = t.number }

      go : (b : Bool) → (if b then named_type (outside p 0 n) else resource (outside r 0 n))
          ≡ (if b then named_type (p n) else resource (r n))
      go true = ap named_type (outside_here p n)
      go false = ap resource (outside_here r n)

  -- what stands there now stood there, as it was called before
  pub named_here : (e : EntityTree) (t : Thing) → named_by e ≡ Some t
      → named_by (entity_by change 0 e) ≡ Some (changed t)
  named_here e t h = named_changed 0 e ∙ ap (option_map (thing_by 0)) h ∙ ap Some (thing_here t)

  -- ---- components within it keep to what they bring

  near_around : (is_type : Bool) (f : Name → Name) (w k d : ℕ) (n : Name) → w ≤ d
      → filter (is_within w) (around (called is_type) k (outside f (k + d) n))
      ≡ filter (is_within w) (around (called is_type) k n)
  near_around is_type f w k d n le = go (nat_lt n.out (k + d)) refl
    where
      -- what is further out than that
      far : (m : Name) → k + d ≤ m.out → filter (is_within w) (around (called is_type) k m) ≡ []
      far m there =
          let around_it : nat_le k m.out ≡ true = le-leb k m.out (omega (arith, there)) in
          let past : nat_lt (m.out - k) w ≡ false = le-ltb (m.out - k) w (omega (arith, there, le)) in
          ap (λ b. filter (is_within w) (if b then called is_type (record { out = m.out - k; number = m.number }) ∷
          [] else [])) around_it
          ∙ ap (λ b. if b then called is_type (record { out = m.out - k; number = m.number }) ∷ [] else []) past

      go : (b : Bool) → nat_lt n.out (k + d) ≡ b
          → filter (is_within w) (around (called is_type) k (outside f (k + d) n))
          ≡ filter (is_within w) (around (called is_type) k n)
      go true e = ap (λ b. filter (is_within w)
          (around (called is_type) k (if b then n else deeper (k + d) (f (record n { out = n.out - (k + d) }))))) e
      go false e =
          let there = ltb-false n.out (k + d) e in
          let m = f (record n { out = n.out - (k + d) }) in
          ap (λ x. filter (is_within w) (around (called is_type) k x)) (outside_there f (k + d) n there)
          ∙ far (deeper (k + d) m) (omega arith) ∙ sym (far n there)

  near_outward : (w d : ℕ) (x : ℕ × Mention) → w ≤ d
      → filter (is_within w) (outward (mention_by d x)) ≡ filter (is_within w) (outward x)
  near_outward w d (k, OfResource n) le = near_around false r w k d n le
  near_outward w d (k, OfPlace n) le = near_around true p w k d n le

  near_outwards : (w d : ℕ) (xs : List (ℕ × Mention)) → w ≤ d
      → filter (is_within w) (outwards (map (mention_by d) xs)) ≡ filter (is_within w) (outwards xs)
  near_outwards w d [] le = refl
  near_outwards w d (x ∷ xs) le =
      filter-append (is_within w) (outward (mention_by d x)) (outwards (map (mention_by d) xs))
      ∙ (λ i. near_outward w d x le i ++ near_outwards w d xs le i)
      ∙ sym (filter-append (is_within w) (outward x) (outwards xs))

  -- what is mentioned of the scopes of a component stays
  near_mentioned : (w d : ℕ) (e : EntityTree) → w ≤ d
      → filter (is_within w) (mentioned (entity_by change d e)) ≡ filter (is_within w) (mentioned e)
  near_mentioned w d e le =
      ap (λ xs. filter (is_within w) (outwards xs)) (entity_changed d 0 d e (omega arith))
      ∙ near_outwards w d (in_entity 0 e) le

  near_thing : (w d : ℕ) (t : Thing) → w ≤ d → is_within w t ≡ true → thing_by d t ≡ t
  near_thing w d t le h = go t.is_type refl
    where
      n : Name
      n = record { out = t.out; number = t.number }

      stays : (f : Name → Name) → outside f d n ≡ n
      stays f = let below = ltb-true t.out w h in ap (λ b. if b then n else deeper d (f (record n { out = n.out - d })))
          (lt-ltb t.out d (omega (arith, le, below)))

      go : (b : Bool) → t.is_type ≡ b → (if b then named_type (outside p d n) else resource (outside r d n)) ≡ t
      go true e = ap named_type (stays p) ∙ (λ i. record { is_type = sym e i; out = t.out; number = t.number })
      go false e = ap resource (stays r) ∙ (λ i. record { is_type = sym e i; out = t.out; number = t.number })

  near_named : (w d : ℕ) (e : EntityTree) (t : Thing) → w ≤ d → is_within w t ≡ true
      → has (option_to_list (named_by e)) t ≡ true → has (option_to_list (named_by (entity_by change d e))) t ≡ true
  near_named w d e t le near h = ap (λ o. has (option_to_list o) t) (named_changed d e) ∙ go (named_by e) h
    where
      go : (o : Option Thing) → has (option_to_list o) t ≡ true
          → has (option_to_list (option_map (thing_by d) o)) t ≡ true
      go None h = h
      go (Some x) h =
          let same = has_one x t h in
          ap (λ y. has (y ∷ []) t) (ap (thing_by d) same ∙ near_thing w d t le near) ∙ has_itself t []

  near_tied : (w d : ℕ) (ls : List (Path × EntityTree)) (seen later : List Thing) → w ≤ d
      → ((t : Thing) → is_within w t ≡ true → has seen t ≡ true → has later t ≡ true)
      → are_tied seen (map (place_for (is_within w)) (map leaf_of ls)) ≡ true
      → are_tied later (map (place_for (is_within w)) (map leaf_of (map (leaf_by d) ls))) ≡ true
  near_tied w d [] seen later le still h = refl
  near_tied w d (l ∷ ls) seen later le still h =
      let named = option_to_list (named_by l.1) in
      let now = option_to_list (named_by (entity_by change d l.1)) in
      let parts = and_parts (list_all (has (seen ++ named)) (filter (is_within w) (mentioned l.1)))
      (are_tied (seen ++ named) (map (place_for (is_within w)) (map leaf_of ls))) h in
      and_from (list_all (has (later ++ now)) (filter (is_within w) (mentioned (entity_by change d l.1))))
      (are_tied (later ++ now) (map (place_for (is_within w)) (map leaf_of (map (leaf_by d) ls))))
      (ap (list_all (has (later ++ now))) (near_mentioned w d l.1 le)
      ∙ all_near w (has (seen ++ named)) (has (later ++ now)) (mentioned l.1) more parts.0)
      (near_tied w d ls (seen ++ named) (later ++ now) le more parts.1)
    where
      more : (t : Thing) → is_within w t ≡ true → has (seen ++ option_to_list (named_by l.1)) t ≡ true
          → has (later ++ option_to_list (named_by (entity_by change d l.1))) t ≡ true
      more t near h = go (has_either seen (option_to_list (named_by l.1)) t h)
        where
          go : (has seen t ≡ true) ⊎ (has (option_to_list (named_by l.1)) t ≡ true)
              → has (later ++ option_to_list (named_by (entity_by change d l.1))) t ≡ true
          go (inl k) = has_first later (option_to_list (named_by (entity_by change d l.1))) t (still t near k)
          go (inr k) = has_then later (option_to_list (named_by (entity_by change d l.1))) t
              (near_named w d l.1 t le near k)

  sides_tied : (d : ℕ) (is es : Entries) → are_sides_tied is es ≡ true
      → are_sides_tied (entries_by change (suc (suc d)) is) (entries_by change (suc (suc d)) es) ≡ true
  sides_tied d is es h =
      ap (λ ls. are_tied [] (map (place_for (is_within 2)) ls)) (both (suc (suc d)))
      ∙ near_tied 2 (suc (suc d)) (leaves_in [] is ++ leaves_in [] es) [] [] (omega arith) (λ t near k. k)
      (ap (λ ls. are_tied [] (map (place_for (is_within 2)) ls))
      (map-append leaf_of (leaves_in [] is) (leaves_in [] es)) ∙ h)
    where
      both : (k : ℕ) → leaves_among [] (entries_by change k is) ++ leaves_among [] (entries_by change k es)
          ≡ map leaf_of (map (leaf_by k) (leaves_in [] is ++ leaves_in [] es))
      both k =
          sym (map-append leaf_of (leaves_in [] (entries_by change k is)) (leaves_in [] (entries_by change k es)))
          ∙ ap (map leaf_of) ((λ i. among_changed k [] is i ++ among_changed k [] es i)
          ∙ sym (map-append (leaf_by k) (leaves_in [] is) (leaves_in [] es)))

  both_tied : (d : ℕ) (is es : Entries) → are_sides_tied is es && (entries_hold_tied is && entries_hold_tied es) ≡ true
      → (entries_hold_tied is ≡ true → entries_hold_tied (entries_by change (suc (suc d)) is) ≡ true)
      → (entries_hold_tied es ≡ true → entries_hold_tied (entries_by change (suc (suc d)) es) ≡ true)
      → are_sides_tied (entries_by change (suc (suc d)) is) (entries_by change (suc (suc d)) es) &&
      (entries_hold_tied (entries_by change (suc (suc d)) is) && entries_hold_tied
      (entries_by change (suc (suc d)) es)) ≡ true
  both_tied d is es h f g =
      let is_now = entries_by change (suc (suc d)) is in
      let es_now = entries_by change (suc (suc d)) es in
      let parts = and_parts (are_sides_tied is es) (entries_hold_tied is && entries_hold_tied es) h in
      let inner = and_parts (entries_hold_tied is) (entries_hold_tied es) parts.1 in
      and_from (are_sides_tied is_now es_now) (entries_hold_tied is_now && entries_hold_tied es_now)
      (sides_tied d is es parts.0) (and_from (entries_hold_tied is_now) (entries_hold_tied es_now) (f inner.0)
      (g inner.1))

  mutual
    type_tied : (d : ℕ) (t : TypeShapeTree) → type_holds_tied t ≡ true → type_holds_tied (type_by change d t) ≡ true
    type_tied d (Value t) h = refl
    type_tied d (Resource n) h = refl
    type_tied d (Func f) h = refl
    type_tied d (Instance es) h = entries_tied (suc d) es h
    type_tied d (Component is es) h =
        both_tied d is es h (entries_tied (suc (suc d)) is) (entries_tied (suc (suc d)) es)

    pub entity_tied : (d : ℕ) (e : EntityTree) → entity_holds_tied e ≡ true
        → entity_holds_tied (entity_by change d e) ≡ true
    entity_tied d (IsType t) h = type_tied d t h
    entity_tied d (IsFunc f) h = refl
    entity_tied d (IsInstance es) h = entries_tied d es h
    entity_tied d (IsComponent is es) h =
        both_tied d is es h (entries_tied (suc (suc d)) is) (entries_tied (suc (suc d)) es)
    entity_tied d (IsModule m) h = refl
    entity_tied d IsOwnModule h = refl

    entries_tied : (d : ℕ) (es : Entries) → entries_hold_tied es ≡ true
        → entries_hold_tied (entries_by change d es) ≡ true
    entries_tied d no_entry h = refl
    entries_tied d (entry name e mark es) h =
        let parts = and_parts (entity_holds_tied e) (entries_hold_tied es) h in
        and_from (entity_holds_tied (entity_by change d e)) (entries_hold_tied (entries_by change d es))
        (entity_tied d e parts.0) (entries_tied d es parts.1)
