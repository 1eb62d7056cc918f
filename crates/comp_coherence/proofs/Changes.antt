-- What keeps one name for one type, keeps it where names are changed.
use Rattle.std.proofs.Common.{◌≡◌, ℕ, suc, ◌+◌, ◌-◌, ◌≤◌, Bool, true, false, cond, List, [], ◌∷◌, ◌++◌, Option, Some, None, refl, sym, ap, subst, ◌∙◌, arith}
use Rattle.std.specs.Prelude.{nat_lt, option_map, flat_map, option_to_list}
use Rattle.std.specs.List.{AllByRecursion}
use Rattle.comp_entity.specs.Entity.{Name, ValueTree, Primitive, TupleOf, RecordOf, VariantOf, ListOf, FlagsOf, EnumOf, OptionOf, ResultOf, Own, Borrow, ValueTrees, none, more, Cases, no_case, labelled, Payload, absent, present, FuncTree, TypeShapeTree, Value, Resource, Func, Instance, Component, EntityTree, IsType, IsFunc, IsInstance, IsComponent, IsModule, IsOwnModule, Entries, no_entry, entry}
use Rattle.comp_entity.specs.Names.{Change, changing, outside, deeper, place_by, value_by, values_by, cases_by, payload_by, func_by, type_by, entity_by, entries_by, Mention, OfResource, OfPlace, in_value, in_values, in_cases, in_payload, in_func, in_type, in_entity, in_entries}
use Rattle.comp_entity.specs.NameLaws.{entity_kept, value_kept, unchanged}
use Rattle.comp_coherence.specs.Changes.{CarriesAlong}
use Rattle.comp_coherence.specs.Coherence.{closed_off, Names, bare_value, inward, outward, within, any_resource, OneTree, OneTrees, OneTreeCases, OneTreePayload, OneTreeParams, OneTreeResult, OneTreeFunc, TypeCoheres, Coheres, AllCohere}
use Rattle.comp_coherence.proofs.Values.{mentions_more, same_value, bare_changed, mentions, bare_mentions, mentioned}

-- ---- lists

module _ {X : Type 0} (P : X → Type 0) where
  pub front : (xs ys : List X) → AllByRecursion P (xs ++ ys) → AllByRecursion P xs
  front [] ys h = tt
  front (x ∷ xs) ys h = (h.0, front xs ys h.1)

  pub back : (xs ys : List X) → AllByRecursion P (xs ++ ys) → AllByRecursion P ys
  back [] ys h = h
  back (x ∷ xs) ys h = back xs ys h.1

  pub joined : (xs ys : List X) → AllByRecursion P xs → AllByRecursion P ys → AllByRecursion P (xs ++ ys)
  joined [] ys h k = k
  joined (x ∷ xs) ys h k = (h.0, joined xs ys h.1 k)

  pub everywhere : ((x : X) → P x) → (xs : List X) → AllByRecursion P xs
  everywhere h [] = tt
  everywhere h (x ∷ xs) = (h x, everywhere h xs)

pub weaker : {X : Type 0} (P Q : X → Type 0) → ((x : X) → P x → Q x) → (xs : List X) → AllByRecursion P xs → AllByRecursion Q xs
weaker P Q w [] h = tt
weaker P Q w (x ∷ xs) h = (w x h.0, weaker P Q w xs h.1)

-- ---- names within scopes and around them

pub by_depth : (P : Name → Type 0) (w : ℕ) → ((n : Name) → nat_lt n.out w ≡ true → P n) → ((m : Name) → P (deeper w m)) → (n : Name) → P n
by_depth P w near far n = of (nat_lt n.out w) refl
  where
    of : (b : Bool) → nat_lt n.out w ≡ b → P n
    of true lt = near n lt
    of false ge = let back : n.out - w + w ≡ n.out = grind arith in subst (λ m. P (record { out = m; number = n.number })) back (far (outward w n))

pub outside_near : (f : Name → Name) (w d : ℕ) (n : Name) → nat_lt n.out w ≡ true → outside f (w + d) n ≡ n
outside_near f w d n lt = let near : nat_lt n.out (w + d) ≡ true = grind arith in rw near refl

pub outside_far : (f : Name → Name) (w d : ℕ) (n : Name) → outside f (w + d) (deeper w n) ≡ deeper w (outside f d n)
outside_far f w d n = of (nat_lt n.out d) refl
  where
    of : (b : Bool) → nat_lt n.out d ≡ b → outside f (w + d) (deeper w n) ≡ deeper w (cond b n (deeper d (f (record n { out = n.out - d }))))
    of true lt = let near : nat_lt (n.out + w) (w + d) ≡ true = grind arith in rw near refl
    of false ge =
        let far : nat_lt (n.out + w) (w + d) ≡ false = grind arith in
        let back : n.out + w - (w + d) ≡ n.out - d = omega arith in
        let m : Name = f (record n { out = n.out - d }) in
        let sum : m.out + (w + d) ≡ m.out + d + w = omega arith in
        rw far (ap (λ o. deeper (w + d) (f (record { out = o; number = n.number }))) back ∙ ap (λ o. record { out = o; number = m.number }) sum)

pub outside_zero : (f : Name → Name) (n : Name) → outside f 0 n ≡ f n
outside_zero f n =
    let far : nat_lt n.out 0 ≡ false = grind arith in
    let same : n.out - 0 ≡ n.out = omega arith in
    let m : Name = f n in
    let sum : m.out + 0 ≡ m.out = omega arith in
    rw far (ap (λ o. deeper 0 (f (record { out = o; number = n.number }))) same ∙ ap (λ o. record { out = o; number = m.number }) sum)

pub outside_shift : (h : Name → Name) (w d : ℕ) (n : Name) → outside h (w + d) (outside (deeper w) 0 n) ≡ outside (deeper w) 0 (outside h d n)
outside_shift h w d n = ap (outside h (w + d)) (outside_zero (deeper w) n) ∙ outside_far h w d n ∙ sym (outside_zero (deeper w) (outside h d n))

module _ (w : ℕ) (own around : Names) where
  pub resource_near : (n : Name) → nat_lt n.out w ≡ true → (within w own around).resource n ≡ own.resource n
  resource_near n lt = ap (λ b. cond b (own.resource n) (around.resource (outward w n))) lt

  pub tree_near : (n : Name) → nat_lt n.out w ≡ true → (within w own around).tree n ≡ own.tree n
  tree_near n lt = ap (λ b. cond b (own.tree n) (option_map (inward w) (around.tree (outward w n)))) lt

  back_out : (m : Name) → outward w (deeper w m) ≡ m
  back_out m = let back : m.out + w - w ≡ m.out = omega arith in ap (λ o. record { out = o; number = m.number }) back

  pub resource_far : (m : Name) → (within w own around).resource (deeper w m) ≡ around.resource m
  resource_far m =
      let far : nat_lt (m.out + w) w ≡ false = grind arith in
      ap (λ b. cond b (own.resource (deeper w m)) (around.resource (outward w (deeper w m)))) far ∙ ap around.resource (back_out m)

  pub tree_far : (m : Name) → (within w own around).tree (deeper w m) ≡ option_map (inward w) (around.tree m)
  tree_far m =
      let far : nat_lt (m.out + w) w ≡ false = grind arith in
      ap (λ b. cond b (own.tree (deeper w m)) (option_map (inward w) (around.tree (outward w (deeper w m))))) far ∙ ap (λ n. option_map (inward w) (around.tree n)) (back_out m)

-- what a type mentions that stands further out
pub outer_mentions : (w : ℕ) (own around : Names) (t : ValueTree) → mentions (within w own around).resource (inward w t) ≡ true → mentions around.resource t ≡ true
outer_mentions w own around t h =
    mentioned (outside (deeper w)) (outside (deeper w)) (λ m. m) 0 around.resource (within w own around).resource
    (λ r is. sym (resource_far w own around r) ∙ ap (within w own around).resource (sym (outside_zero (deeper w) r)) ∙ is) t h

pub some_of : {X Y : Type 0} (f : X → Y) (o : Option X) (y : Y) → option_map f o ≡ Some y → (x : X) × (o ≡ Some x) × (f x ≡ y)
some_of f None y h = absurd cc
some_of f (Some x) y h = (x, refl, cc)

-- ---- a change of names

-- names of which something is asked where they are mentioned
module _ (f g : Name → Name) (mark : Bool → Bool) (OfResources OfPlaces : Name → Type 0) where
  abbrev pub naming : Change
  naming = record { resource = outside f; place = λ d n. Some (outside g d n); mark = mark }

  abbrev pub Asked : ℕ × Mention → Type 0
  Asked (d, OfResource r) = d ≤ r.out → OfResources (outward d r)
  Asked (d, OfPlace n) = d ≤ n.out → OfPlaces (outward d n)

  -- so deep, what names mean is carried along
  pub record Carries (d : ℕ) (before after : Names) : Type 0 where
    pub resource : (r : Name) → Asked (d, OfResource r) → before.resource r ≡ true → after.resource (outside f d r) ≡ true
    pub tree : (n : Name) (t : ValueTree) → Asked (d, OfPlace n) → mentions before.resource t ≡ true → before.tree n ≡ Some t
        → after.tree (outside g d n) ≡ Some (value_by naming d t)

  asked_out : (w d : ℕ) (n : Name) (P : Name → Type 0) → (w + d ≤ n.out + w → P (outward (w + d) (deeper w n))) → d ≤ n.out → P (outward d n)
  asked_out w d n P h le =
      let back : n.out + w - (w + d) ≡ n.out - d = omega arith in
      subst (λ o. P (record { out = o; number = n.number })) back (h (omega arith))

  place_inward : (w d : ℕ) (p : Option Name) → place_by naming (w + d) (place_by (changing (deeper w) (deeper w)) 0 p) ≡ place_by (changing (deeper w) (deeper w)) 0 (place_by naming d p)
  place_inward w d None = refl
  place_inward w d (Some n) = ap Some (outside_shift g w d n)

  inward_changed : (w d : ℕ) (t : ValueTree) → value_by naming (w + d) (inward w t) ≡ inward w (value_by naming d t)
  inward_changed w d t = same_value naming (changing (deeper w) (deeper w)) (changing (deeper w) (deeper w)) naming (w + d) 0 0 d (outside_shift f w d) (place_inward w d) t

  -- within a scope more the scope's own places stand for what the change makes of their types
  abbrev pub changed_own : ℕ → (Name → Option ValueTree) → Name → Option ValueTree
  changed_own e own n = option_map (value_by naming e) (own n)

  module _ (w d : ℕ) (before after : Names) (own : Name → Option ValueTree) (k : Carries d before after) where
    abbrev inner : Names
    inner = within w (any_resource own) before

    abbrev inner_after : Names
    inner_after = within w (any_resource (changed_own (w + d) own)) after

    abbrev ResourceKept : Name → Type 0
    ResourceKept r = Asked (w + d, OfResource r) → inner.resource r ≡ true → inner_after.resource (outside f (w + d) r) ≡ true

    abbrev TreeKept : Name → Type 0
    TreeKept n = (t : ValueTree) → Asked (w + d, OfPlace n) → mentions inner.resource t ≡ true → inner.tree n ≡ Some t
        → inner_after.tree (outside g (w + d) n) ≡ Some (value_by naming (w + d) t)

    resource_in : (r : Name) → nat_lt r.out w ≡ true → ResourceKept r
    resource_in r lt asked h = ap inner_after.resource (outside_near f w d r lt) ∙ resource_near w (any_resource (changed_own (w + d) own)) after r lt

    resource_out : (m : Name) → ResourceKept (deeper w m)
    resource_out m asked h =
        ap inner_after.resource (outside_far f w d m) ∙ resource_far w (any_resource (changed_own (w + d) own)) after (outside f d m)
        ∙ k.resource m (asked_out w d m OfResources asked) (sym (resource_far w (any_resource own) before m) ∙ h)

    tree_in : (n : Name) → nat_lt n.out w ≡ true → TreeKept n
    tree_in n lt t asked only h =
        ap inner_after.tree (outside_near g w d n lt) ∙ tree_near w (any_resource (changed_own (w + d) own)) after n lt
        ∙ ap (option_map (value_by naming (w + d))) (sym (tree_near w (any_resource own) before n lt) ∙ h)

    tree_out : (m : Name) → TreeKept (deeper w m)
    tree_out m t asked only h =
        let u = some_of (inward w) (before.tree m) t (sym (tree_far w (any_resource own) before m) ∙ h) in
        let same : inward w u.0 ≡ t = u.2 in
        let out = outer_mentions w (any_resource own) before u.0 (ap (mentions inner.resource) same ∙ only) in
        ap inner_after.tree (outside_far g w d m) ∙ tree_far w (any_resource (changed_own (w + d) own)) after (outside g d m)
        ∙ ap (option_map (inward w)) (k.tree m u.0 (asked_out w d m OfPlaces asked) out u.1)
        ∙ ap Some (sym (inward_changed w d u.0) ∙ ap (value_by naming (w + d)) same)

    carried_within : Carries (w + d) inner inner_after
    carried_within = record { resource = by_depth ResourceKept w resource_in resource_out; tree = by_depth TreeKept w tree_in tree_out }

  carried_at : (w d e : ℕ) → e ≡ w + d → (before after : Names) (own : Name → Option ValueTree) → Carries d before after
      → Carries e (within w (any_resource own) before) (within w (any_resource (changed_own e own)) after)
  carried_at w d e is before after own k =
      subst (λ e. Carries e (within w (any_resource own) before) (within w (any_resource (changed_own e own)) after)) (sym is) (carried_within w d before after own k)

  -- the same where a component is around
  closed_carries : (d : ℕ) (before after : Names) → Carries d before after → Carries d (closed_off before) (closed_off after)
  closed_carries d before after k = record {
    resource = λ r asked h. absurd cc;
    tree = λ n t asked only h. k.tree n t asked (mentions_more (λ r. false) before.resource (λ r h. absurd cc) t only) h;
  }

  component_carries : (d : ℕ) (before after : Names) (own : Name → Option ValueTree) → Carries d before after
      → Carries (suc (suc d)) (within 2 (any_resource own) (closed_off before)) (within 2 (any_resource (changed_own (suc (suc d)) own)) (closed_off after))
  component_carries d before after own k =
      carried_at 2 d (suc (suc d)) (omega arith) (closed_off before) (closed_off after) own (closed_carries d before after k)

  module _ (d : ℕ) (before after : Names) (k : Carries d before after) where
    place_carried : (n : Name) (t : ValueTree) → Asked (d, OfPlace n) → OneTree before t → before.tree n ≡ Some (bare_value t) → after.tree (outside g d n) ≡ Some (bare_value (value_by naming d t))
    place_carried n t asked one h =
        k.tree n (bare_value t) asked (bare_mentions before t one) h ∙ ap Some (sym (bare_changed (outside f) (outside g) mark d t))

    mutual
      pub value_carried : (t : ValueTree) → OneTree before t → AllByRecursion Asked (in_value d t) → OneTree after (value_by naming d t)
      value_carried (Primitive p) h m = tt
      value_carried (TupleOf ts) h m = values_carried ts h m
      value_carried (RecordOf None fs) h m = (tt, cases_carried fs h.1 m)
      value_carried (RecordOf (Some n) fs) h m = (place_carried n (RecordOf (Some n) fs) m.0 h h.0, cases_carried fs h.1 m.1)
      value_carried (VariantOf None cs) h m = (tt, cases_carried cs h.1 m)
      value_carried (VariantOf (Some n) cs) h m = (place_carried n (VariantOf (Some n) cs) m.0 h h.0, cases_carried cs h.1 m.1)
      value_carried (ListOf t) h m = value_carried t h m
      value_carried (FlagsOf None ls) h m = tt
      value_carried (FlagsOf (Some n) ls) h m = place_carried n (FlagsOf (Some n) ls) m.0 h h
      value_carried (EnumOf None ls) h m = tt
      value_carried (EnumOf (Some n) ls) h m = place_carried n (EnumOf (Some n) ls) m.0 h h
      value_carried (OptionOf t) h m = value_carried t h m
      value_carried (ResultOf ok err) h m = (payload_carried ok h.0 (front Asked (in_payload d ok) _ m), payload_carried err h.1 (back Asked (in_payload d ok) _ m))
      value_carried (Own r) h m = k.resource r m.0 h
      value_carried (Borrow r) h m = k.resource r m.0 h

      values_carried : (ts : ValueTrees) → OneTrees before ts → AllByRecursion Asked (in_values d ts) → OneTrees after (values_by naming d ts)
      values_carried none h m = tt
      values_carried (more t ts) h m = (value_carried t h.0 (front Asked (in_value d t) _ m), values_carried ts h.1 (back Asked (in_value d t) _ m))

      cases_carried : (cs : Cases) → OneTreeCases before cs → AllByRecursion Asked (in_cases d cs) → OneTreeCases after (cases_by naming d cs)
      cases_carried no_case h m = tt
      cases_carried (labelled l p cs) h m = (payload_carried p h.0 (front Asked (in_payload d p) _ m), cases_carried cs h.1 (back Asked (in_payload d p) _ m))

      payload_carried : (p : Payload) → OneTreePayload before p → AllByRecursion Asked (in_payload d p) → OneTreePayload after (payload_by naming d p)
      payload_carried absent h m = tt
      payload_carried (present t) h m = value_carried t h m

    func_carried : (fn : FuncTree) → OneTreeFunc before fn → AllByRecursion Asked (in_func d fn) → OneTreeFunc after (func_by naming d fn)
    func_carried fn h m =
        (params fn.params h.0 (front Asked (flat_map (λ p. in_value d p.1) fn.params) _ m), result fn.result h.1 (back Asked (flat_map (λ p. in_value d p.1) fn.params) _ m))
      where
        params : (ps : List (List ℕ × ValueTree)) → OneTreeParams before ps → AllByRecursion Asked (flat_map (λ p. in_value d p.1) ps) → OneTreeParams after (func_by naming d (record { params = ps; result = None })).params
        params [] h m = tt
        params (p ∷ ps) h m = (value_carried p.1 h.0 (front Asked (in_value d p.1) _ m), params ps h.1 (back Asked (in_value d p.1) _ m))

        result : (r : Option ValueTree) → OneTreeResult before r → AllByRecursion Asked (flat_map (in_value d) (option_to_list r)) → OneTreeResult after (option_map (value_by naming d) r)
        result None h m = tt
        result (Some t) h m = value_carried t h (front Asked (in_value d t) _ m)

  mutual
    pub type_carried : (d : ℕ) (before after : Names) → Carries d before after → (t : TypeShapeTree) → TypeCoheres before t → AllByRecursion Asked (in_type d t) → TypeCoheres after (type_by naming d t)
    type_carried d before after k (Value t) h m = value_carried d before after k t h m
    type_carried d before after k (Resource r) h m = k.resource r m.0 h
    type_carried d before after k (Func fn) h m = func_carried d before after k fn h m
    type_carried d before after k (Instance es) h m = (changed_own (suc d) h.0, all_carried (suc d) _ _ (carried_at 1 d (suc d) (omega arith) before after h.0 k) es h.1 m)
    type_carried d before after k (Component is es) h m = (
      changed_own (suc (suc d)) h.0,
      all_carried (suc (suc d)) _ _ (component_carries d before after h.0 k) is h.1 (front Asked (in_entries (suc (suc d)) is) _ m),
      all_carried (suc (suc d)) _ _ (component_carries d before after h.0 k) es h.2 (back Asked (in_entries (suc (suc d)) is) _ m),
    )

    pub entity_carried : (d : ℕ) (before after : Names) → Carries d before after → (e : EntityTree) → Coheres before e → AllByRecursion Asked (in_entity d e) → Coheres after (entity_by naming d e)
    entity_carried d before after k (IsType t) h m = type_carried d before after k t h m
    entity_carried d before after k (IsFunc fn) h m = func_carried d before after k fn h m
    entity_carried d before after k (IsInstance es) h m = all_carried d before after k es h m
    entity_carried d before after k (IsComponent is es) h m = (
      changed_own (suc (suc d)) h.0,
      all_carried (suc (suc d)) _ _ (component_carries d before after h.0 k) is h.1 (front Asked (in_entries (suc (suc d)) is) _ m),
      all_carried (suc (suc d)) _ _ (component_carries d before after h.0 k) es h.2 (back Asked (in_entries (suc (suc d)) is) _ m),
    )
    entity_carried d before after k (IsModule s) h m = tt
    entity_carried d before after k IsOwnModule h m = tt

    pub all_carried : (d : ℕ) (before after : Names) → Carries d before after → (es : Entries) → AllCohere before es → AllByRecursion Asked (in_entries d es) → AllCohere after (entries_by naming d es)
    all_carried d before after k no_entry h m = tt
    all_carried d before after k (entry name e mk es) h m = (entity_carried d before after k e h.0 (front Asked (in_entity d e) _ m), all_carried d before after k es h.1 (back Asked (in_entity d e) _ m))

-- ---- names that mean more

pub record Grows (before after : Names) : Type 0 where
  pub resource : (r : Name) → before.resource r ≡ true → after.resource r ≡ true
  pub tree : (n : Name) (t : ValueTree) → before.tree n ≡ Some t → after.tree n ≡ Some t

abbrev pub Anything : Name → Type 0
Anything n = Unit {0}

pub never_asked : (f g : Name → Name) (mark : Bool → Bool) (m : ℕ × Mention) → Asked f g mark Anything Anything m
never_asked f g mark (d, OfResource r) = λ le. tt
never_asked f g mark (d, OfPlace n) = λ le. tt

-- the same of those alone that stand for types whose resources are known
pub record Reaches (before after : Names) : Type 0 where
  pub resource : (r : Name) → before.resource r ≡ true → after.resource r ≡ true
  pub tree : (n : Name) (t : ValueTree) → mentions before.resource t ≡ true → before.tree n ≡ Some t → after.tree n ≡ Some t

abbrev pub as_is : Name → Name
as_is n = n

module _ (before after : Names) (reaches : Reaches before after) where
  reached_carries : Carries as_is as_is (λ m. m) Anything Anything 0 before after
  reached_carries = record {
    resource = λ r asked h. ap after.resource (outside_zero as_is r) ∙ reaches.resource r h;
    tree = λ n t asked only h.
        ap after.tree (outside_zero as_is n) ∙ reaches.tree n t only h ∙ ap Some (sym (value_kept (changing as_is as_is) unchanged 0 t));
  }

  pub reached : (e : EntityTree) → Coheres before e → Coheres after e
  reached e h =
      subst (Coheres after) (entity_kept (changing as_is as_is) unchanged 0 e)
      (entity_carried as_is as_is (λ m. m) Anything Anything 0 before after reached_carries e h
      (everywhere (Asked as_is as_is (λ m. m) Anything Anything) (never_asked as_is as_is (λ m. m)) (in_entity 0 e)))

pub grown : (before after : Names) → Grows before after → (e : EntityTree) → Coheres before e → Coheres after e
grown before after grows e h = reached before after (record { resource = grows.resource; tree = λ n t only h. grows.tree n t h }) e h

pub grows_on : (a b c : Names) → Grows a b → Grows b c → Grows a c
grows_on a b c g h = record { resource = λ r x. h.resource r (g.resource r x); tree = λ n t x. h.tree n t (g.tree n t x) }

pub stays : (names : Names) → Grows names names
stays names = record { resource = λ r h. h; tree = λ n t h. h }

-- a change that carries along what names mean
module _ (f g : Name → Name) (before after : Names) (carries : CarriesAlong f g before after) where
  pub carried_along : (e : EntityTree) → Coheres before e → Coheres after (entity_by (changing f g) 0 e)
  carried_along e h =
      entity_carried f g (λ m. m) Anything Anything 0 before after
      (record {
        resource = λ r asked k. ap after.resource (outside_zero f r) ∙ carries.resources r k;
        tree = λ n t asked only k. ap after.tree (outside_zero g n) ∙ carries.trees n t k;
      })
      e h (everywhere (Asked f g (λ m. m) Anything Anything) (never_asked f g (λ m. m)) (in_entity 0 e))
