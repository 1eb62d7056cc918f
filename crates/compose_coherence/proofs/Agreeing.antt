-- Laws of names that agree.
use Rattle.std.proofs.Common.{◌≡◌, ℕ, ◌+◌, ◌-◌, Bool, true, false, cond, ◌&&◌, List, [], ◌∷◌, ◌++◌, Option, Some, None, refl, sym, ap, subst, ◌∙◌, arith}
use Rattle.std.specs.Prelude.{nat_lt, not, option_map, unwrap_or, is_some}
use Rattle.std.specs.List.{AllByRecursion, list_any}
use Rattle.comp_format.specs.declared.types.Primitive.TheVariants as primitive
use Rattle.comp_entity.specs.Entity.{Name, ValueTree, Primitive, TupleOf, RecordOf, VariantOf, ListOf, FlagsOf, EnumOf, OptionOf, ResultOf, Own, Borrow, ValueTrees, none, more, Cases, no_case, labelled, Payload, absent, present, FuncTree, Value}
use Rattle.comp_entity.specs.Names.{Change, changing, deeper, outside, value_by, values_by, cases_by, payload_by, without_places, Mention, OfResource, OfPlace, in_value, in_values, in_cases, in_payload, is_resource, mentions_resource}
use Rattle.comp_coherence.specs.Coherence.{Names, bare_value, inward, outward, within, any_resource, closed_off, nowhere, OneTree, OneTrees, OneTreeCases, OneTreePayload, OneTreeParams, OneTreeResult, OneTreeFunc}
use Rattle.compose_meaning.specs.Meaning as meaning
use Rattle.compose_meaning.specs.Meaning.{Meaning}
use Rattle.compose_meaning.specs.Readable.{by_scope, may_within, further_in, in_component_type, in_instance_type}
use Rattle.compose_coherence.specs.Agreement.{MayMention, MayBeMentioned, Agrees, meaning_of}

-- ---- a meaning that agrees

pub meaning_agrees : (names : Names) (resource : Name → Name) (bit : Name → Bool) → Agrees names (meaning_of resource bit names)
meaning_agrees names resource bit = record {
  resources = λ r h. h;
  places = λ n t h known. ap is_some h;
  trees = λ n t h. ap (λ o. unwrap_or o (Primitive primitive.Bool)) (sym h);
}

-- ---- what a type mentions

front : {X : Type 0} (P : X → Type 0) (xs ys : List X) → AllByRecursion P (xs ++ ys) → AllByRecursion P xs
front P [] ys h = tt
front P (x ∷ xs) ys h = (h.0, front P xs ys h.1)

back : {X : Type 0} (P : X → Type 0) (xs ys : List X) → AllByRecursion P (xs ++ ys) → AllByRecursion P ys
back P [] ys h = h
back P (x ∷ xs) ys h = back P xs ys h.1

pub joined : {X : Type 0} (P : X → Type 0) (xs ys : List X) → AllByRecursion P xs → AllByRecursion P ys → AllByRecursion P (xs ++ ys)
joined P [] ys h k = k
joined P (x ∷ xs) ys h k = (h.0, joined P xs ys h.1 k)

-- a type that coheres mentions what may be mentioned
module _ (names : Names) where
  mutual
    known : (t : ValueTree) → OneTree names t → MayBeMentioned names (bare_value t)
    known (Primitive p) h = tt
    known (TupleOf ts) h = all_known ts h
    known (RecordOf None fs) h = cases_known fs h.1
    known (RecordOf (Some n) fs) h = cases_known fs h.1
    known (VariantOf None cs) h = cases_known cs h.1
    known (VariantOf (Some n) cs) h = cases_known cs h.1
    known (ListOf t) h = known t h
    known (FlagsOf None ls) h = tt
    known (FlagsOf (Some n) ls) h = tt
    known (EnumOf None ls) h = tt
    known (EnumOf (Some n) ls) h = tt
    known (OptionOf t) h = known t h
    known (ResultOf ok err) h = joined (MayMention names) (in_payload 0 (payload_by without_places 0 ok)) _ (payload_known ok h.0) (payload_known err h.1)
    known (Own r) h = (h, tt)
    known (Borrow r) h = (h, tt)

    all_known : (ts : ValueTrees) → OneTrees names ts → AllByRecursion (MayMention names) (in_values 0 (values_by without_places 0 ts))
    all_known none h = tt
    all_known (more t ts) h = joined (MayMention names) (in_value 0 (bare_value t)) _ (known t h.0) (all_known ts h.1)

    cases_known : (cs : Cases) → OneTreeCases names cs → AllByRecursion (MayMention names) (in_cases 0 (cases_by without_places 0 cs))
    cases_known no_case h = tt
    cases_known (labelled l p cs) h = joined (MayMention names) (in_payload 0 (payload_by without_places 0 p)) _ (payload_known p h.0) (cases_known cs h.1)

    payload_known : (p : Payload) → OneTreePayload names p → AllByRecursion (MayMention names) (in_payload 0 (payload_by without_places 0 p))
    payload_known absent h = tt
    payload_known (present t) h = known t h

-- what is called from further in mentions what may be mentioned further out
module _ (w : ℕ) (own names : Names) where
  abbrev deep : Names
  deep = within w own names

  resource_there : (r : Name) → deep.resource (outside (deeper w) 0 r) ≡ names.resource r
  resource_there r =
      let first : nat_lt r.out 0 ≡ false = grind arith in
      let same : r.out - 0 + w + 0 ≡ r.out + w = omega arith in
      let far : nat_lt (r.out + w) w ≡ false = grind arith in
      let back : r.out + w - w ≡ r.out = omega arith in
      rw first
      (ap (λ o. deep.resource (record { out = o; number = r.number })) same
      ∙ ap (λ b. cond b (own.resource (deeper w r)) (names.resource (outward w (deeper w r)))) far
      ∙ ap (λ o. names.resource (record { out = o; number = r.number })) back)

  abbrev shifting : Change
  shifting = changing (deeper w) (deeper w)

  mutual
    known_out : (t : ValueTree) → AllByRecursion (MayMention deep) (in_value 0 (value_by shifting 0 t)) → AllByRecursion (MayMention names) (in_value 0 t)
    known_out (Primitive p) h = tt
    known_out (TupleOf ts) h = all_out ts h
    known_out (RecordOf None fs) h = cases_out fs h
    known_out (RecordOf (Some n) fs) h = (tt, cases_out fs h.1)
    known_out (VariantOf None cs) h = cases_out cs h
    known_out (VariantOf (Some n) cs) h = (tt, cases_out cs h.1)
    known_out (ListOf t) h = known_out t h
    known_out (FlagsOf None ls) h = tt
    known_out (FlagsOf (Some n) ls) h = (tt, tt)
    known_out (EnumOf None ls) h = tt
    known_out (EnumOf (Some n) ls) h = (tt, tt)
    known_out (OptionOf t) h = known_out t h
    known_out (ResultOf ok err) h =
        joined (MayMention names) (in_payload 0 ok) _ (payload_out ok (front (MayMention deep) (in_payload 0 (payload_by shifting 0 ok)) _ h))
        (payload_out err (back (MayMention deep) (in_payload 0 (payload_by shifting 0 ok)) _ h))
    known_out (Own r) h = (sym (resource_there r) ∙ h.0, tt)
    known_out (Borrow r) h = (sym (resource_there r) ∙ h.0, tt)

    all_out : (ts : ValueTrees) → AllByRecursion (MayMention deep) (in_values 0 (values_by shifting 0 ts)) → AllByRecursion (MayMention names) (in_values 0 ts)
    all_out none h = tt
    all_out (more t ts) h =
        joined (MayMention names) (in_value 0 t) _ (known_out t (front (MayMention deep) (in_value 0 (value_by shifting 0 t)) _ h))
        (all_out ts (back (MayMention deep) (in_value 0 (value_by shifting 0 t)) _ h))

    cases_out : (cs : Cases) → AllByRecursion (MayMention deep) (in_cases 0 (cases_by shifting 0 cs)) → AllByRecursion (MayMention names) (in_cases 0 cs)
    cases_out no_case h = tt
    cases_out (labelled l p cs) h =
        joined (MayMention names) (in_payload 0 p) _ (payload_out p (front (MayMention deep) (in_payload 0 (payload_by shifting 0 p)) _ h))
        (cases_out cs (back (MayMention deep) (in_payload 0 (payload_by shifting 0 p)) _ h))

    payload_out : (p : Payload) → AllByRecursion (MayMention deep) (in_payload 0 (payload_by shifting 0 p)) → AllByRecursion (MayMention names) (in_payload 0 p)
    payload_out absent h = tt
    payload_out (present t) h = known_out t h

-- ---- types

module _ (names : Names) (mean : Meaning) (a : Agrees names mean) where
  named : (n : Name) (t : ValueTree) → OneTree names t → names.tree n ≡ Some (bare_value t) → meaning.IsNamed mean t (Some n)
  named n t one h = (a.places n (bare_value t) h (known names t one), a.trees n (bare_value t) h)

  mutual
    pub one_tree : (t : ValueTree) → OneTree names t → meaning.OneTree mean t
    one_tree (Primitive p) h = tt
    one_tree (TupleOf ts) h = one_trees ts h
    one_tree (RecordOf None fs) h = (tt, one_tree_cases fs h.1)
    one_tree (RecordOf (Some n) fs) h = (named n (RecordOf (Some n) fs) h h.0, one_tree_cases fs h.1)
    one_tree (VariantOf None cs) h = (tt, one_tree_cases cs h.1)
    one_tree (VariantOf (Some n) cs) h = (named n (VariantOf (Some n) cs) h h.0, one_tree_cases cs h.1)
    one_tree (ListOf t) h = one_tree t h
    one_tree (FlagsOf None ls) h = tt
    one_tree (FlagsOf (Some n) ls) h = named n (FlagsOf (Some n) ls) h h
    one_tree (EnumOf None ls) h = tt
    one_tree (EnumOf (Some n) ls) h = named n (EnumOf (Some n) ls) h h
    one_tree (OptionOf t) h = one_tree t h
    one_tree (ResultOf ok err) h = (one_tree_payload ok h.0, one_tree_payload err h.1)
    one_tree (Own r) h = a.resources r h
    one_tree (Borrow r) h = a.resources r h

    one_trees : (ts : ValueTrees) → OneTrees names ts → meaning.OneTrees mean ts
    one_trees none h = tt
    one_trees (more t ts) h = (one_tree t h.0, one_trees ts h.1)

    one_tree_cases : (cs : Cases) → OneTreeCases names cs → meaning.OneTreeCases mean cs
    one_tree_cases no_case h = tt
    one_tree_cases (labelled l p cs) h = (one_tree_payload p h.0, one_tree_cases cs h.1)

    one_tree_payload : (p : Payload) → OneTreePayload names p → meaning.OneTreePayload mean p
    one_tree_payload absent h = tt
    one_tree_payload (present t) h = one_tree t h

  one_tree_params : (ps : List (List ℕ × ValueTree)) → OneTreeParams names ps → meaning.OneTreeParams mean ps
  one_tree_params [] h = tt
  one_tree_params (p ∷ ps) h = (one_tree p.1 h.0, one_tree_params ps h.1)

  one_tree_result : (r : Option ValueTree) → OneTreeResult names r → meaning.OneTreeResult mean r
  one_tree_result None h = tt
  one_tree_result (Some t) h = one_tree t h

  pub one_tree_func : (f : FuncTree) → OneTreeFunc names f → meaning.OneTreeFunc mean f
  one_tree_func f h = (one_tree_params f.params h.0, one_tree_result f.result h.1)

-- ---- within scopes

some_of : {X Y : Type 0} (f : X → Y) (o : Option X) (y : Y) → option_map f o ≡ Some y → (x : X) × (o ≡ Some x) × (f x ≡ y)
some_of f None y h = absurd cc
some_of f (Some x) y h = (x, refl, cc)

module _ (names : Names) (mean : Meaning) (a : Agrees names mean) (own : Name → Option ValueTree) (own_mean : Meaning) (o : Agrees (any_resource own) own_mean) where
  abbrev inner : Names
  inner = within 1 (any_resource own) names

  abbrev inner_mean : Meaning
  inner_mean = in_instance_type own_mean mean

  resource_within : (r : Name) → inner.resource r ≡ true → inner_mean.may_mention (OfResource r) ≡ true
  resource_within r h = of (nat_lt r.out 1) h
    where
      of : (b : Bool) → cond b true (names.resource (outward 1 r)) ≡ true → may_within false mean (option_map OfResource (cond b None (Some (outward 1 r)))) ≡ true
      of true h = refl
      of false h = ap (λ c. c && true) (a.resources (outward 1 r) h)

  place_within : (n : Name) (t : ValueTree) → inner.tree n ≡ Some t → MayBeMentioned inner t → inner_mean.may_mention (OfPlace n) ≡ true
  place_within n t h may = of (nat_lt n.out 1) h
    where
      of : (b : Bool) → cond b (own n) (option_map (inward 1) (names.tree (outward 1 n))) ≡ Some t → may_within false mean (option_map OfPlace (cond b None (Some (outward 1 n)))) ≡ true
      of true h = refl
      of false h =
          let u = some_of (inward 1) (names.tree (outward 1 n)) t h in
          ap (λ c. c && true) (a.places (outward 1 n) u.0 u.1 (known_out 1 (any_resource own) names u.0 (subst (MayBeMentioned inner) (sym u.2) may)))

  tree_within : (n : Name) (t : ValueTree) → inner.tree n ≡ Some t → t ≡ inner_mean.tree n
  tree_within n t h = of (nat_lt n.out 1) h
    where
      of : (b : Bool) → cond b (own n) (option_map (inward 1) (names.tree (outward 1 n))) ≡ Some t → t ≡ by_scope (own_mean.tree n) (further_in 1 mean) (cond b None (Some (outward 1 n)))
      of true h = o.trees n t h
      of false h = let u = some_of (inward 1) (names.tree (outward 1 n)) t h in sym u.2 ∙ ap (inward 1) (a.trees (outward 1 n) u.0 u.1)

  pub agree_in_instance : Agrees inner inner_mean
  agree_in_instance = record { resources = resource_within; places = place_within; trees = tree_within }

-- a type of which no resource may be mentioned mentions none
no_resource : (names : Names) (ms : List (ℕ × Mention)) → AllByRecursion (MayMention (closed_off names)) ms → list_any is_resource ms ≡ false
no_resource names [] h = refl
no_resource names ((d, OfResource r) ∷ ms) h = absurd (never h.0)
  where
    never : false ≡ true → ⊥
    never e = cc
no_resource names ((d, OfPlace n) ∷ ms) h = no_resource names ms h.1

still_known : (names : Names) (ms : List (ℕ × Mention)) → AllByRecursion (MayMention (closed_off names)) ms → AllByRecursion (MayMention names) ms
still_known names [] h = tt
still_known names ((d, OfResource r) ∷ ms) h = absurd (never h.0)
  where
    never : false ≡ true → ⊥
    never e = cc
still_known names ((d, OfPlace n) ∷ ms) h = (tt, still_known names ms h.1)

module _ (names : Names) (mean : Meaning) (a : Agrees names mean) (own : Name → Option ValueTree) (own_mean : Meaning) (o : Agrees (any_resource own) own_mean) where
  abbrev component : Names
  component = within 2 (any_resource own) (closed_off names)

  abbrev component_mean : Meaning
  component_mean = in_component_type own_mean mean

  resource_inside : (r : Name) → component.resource r ≡ true → component_mean.may_mention (OfResource r) ≡ true
  resource_inside r h = of (nat_lt r.out 2) h
    where
      of : (b : Bool) → cond b true false ≡ true → may_within true mean (option_map OfResource (cond b None (Some (outward 2 r)))) ≡ true
      of true h = refl
      of false h = absurd cc

  -- a type around the component that is mentioned in it
  place_around : (m : Name) (u : ValueTree) → names.tree m ≡ Some u → MayBeMentioned (closed_off names) u → may_within true mean (Some (OfPlace m)) ≡ true
  place_around m u h may =
      let free : mentions_resource (Value u) ≡ false = no_resource names (in_value 0 u) may in
      let is_free : mentions_resource (Value (mean.tree m)) ≡ false = ap (λ t. mentions_resource (Value t)) (sym (a.trees m u h)) ∙ free in
      ap (λ c. mean.may_mention (OfPlace m) && not c) is_free ∙ ap (λ c. c && true) (a.places m u h (still_known names (in_value 0 u) may))

  place_inside : (n : Name) (t : ValueTree) → component.tree n ≡ Some t → MayBeMentioned component t → component_mean.may_mention (OfPlace n) ≡ true
  place_inside n t h may = of (nat_lt n.out 2) h
    where
      of : (b : Bool) → cond b (own n) (option_map (inward 2) (names.tree (outward 2 n))) ≡ Some t → may_within true mean (option_map OfPlace (cond b None (Some (outward 2 n)))) ≡ true
      of true h = refl
      of false h =
          let u = some_of (inward 2) (names.tree (outward 2 n)) t h in
          place_around (outward 2 n) u.0 u.1 (known_out 2 (any_resource own) (closed_off names) u.0 (subst (MayBeMentioned component) (sym u.2) may))

  tree_inside : (n : Name) (t : ValueTree) → component.tree n ≡ Some t → t ≡ component_mean.tree n
  tree_inside n t h = of (nat_lt n.out 2) h
    where
      of : (b : Bool) → cond b (own n) (option_map (inward 2) (names.tree (outward 2 n))) ≡ Some t → t ≡ by_scope (own_mean.tree n) (further_in 2 mean) (cond b None (Some (outward 2 n)))
      of true h = o.trees n t h
      of false h = let u = some_of (inward 2) (names.tree (outward 2 n)) t h in sym u.2 ∙ ap (inward 2) (a.trees (outward 2 n) u.0 u.1)

  pub agree_in_component : Agrees component component_mean
  agree_in_component = record { resources = resource_inside; places = place_inside; trees = tree_inside }

pub agree_nowhere : (mean : Meaning) → Agrees nowhere mean
agree_nowhere mean = record { resources = λ r h. absurd cc; places = λ n t h known. absurd cc; trees = λ n t h. absurd cc }
