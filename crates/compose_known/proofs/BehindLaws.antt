-- What is known behind an entity whose leaves mention nothing but what is known, or named by an earlier leaf.
use Rattle.std.proofs.Common.{◌≡◌, ◌⊎◌, inl, inr, ◌||◌, ◌-◌, ℕ, suc, Bool, true, false, List, [], ◌∷◌, ◌++◌, map, Option, Some, None, refl, sym, ap, ◌∙◌, arith}
use Rattle.std.specs.Prelude.{flat_map, filter, nat_le, nat_lt, is_some, option_and_then, option_map, option_to_list, if◌then◌else◌}
use Rattle.std.specs.List.{list_any, list_all, AllByRecursion}
use Rattle.std.proofs.lemmas.Grind.{flat_map-append}
use Rattle.std.proofs.lemmas.List.{map-append}
use Rattle.std.proofs.lemmas.Bool.{ltb-false, and_from, and_parts, le-leb, or_left, or_right}
use Rattle.comp_entity.specs.Entity.{Name, ValueTree, Primitive, TupleOf, RecordOf, VariantOf, ListOf, FlagsOf, EnumOf, OptionOf, ResultOf, Own, Borrow, ValueTrees, none, more, Cases, no_case, labelled, Payload, absent, present, FuncTree, TypeShapeTree, Value, Resource, Func, Instance, Component, EntityTree, IsType, IsFunc, IsInstance, IsComponent, IsModule, IsOwnModule, Entries, no_entry, entry}
use Rattle.comp_entity.specs.Names.{Mention, OfResource, OfPlace, at_place, in_value, in_values, in_cases, in_payload, in_func, in_entity, in_entries}
use Rattle.comp_entity.specs.Fits.{place_of, same_name}
use Rattle.comp_entity.specs.Places.{Path, leaves_of, leaves_in, same_mention, named_value}
use Rattle.compose_left.specs.declared.spots.Thing.{Thing}
use Rattle.compose_left.specs.Spots.{resource, named_type, named_by}
use Rattle.compose_needs.specs.declared.leaves.Leaf.{Leaf}
use Rattle.compose_needs.specs.declared.place.Place.{Place}
use Rattle.compose_needs.specs.Leaves.{leaf_of, leaves_among}
use Rattle.compose_needs.specs.Mentioned.{has, around, outward, outwards, mentioned}
use Rattle.compose_needs.specs.Tied.{are_tied}
use Rattle.compose_writing.specs.Keys.{mention_outside, name_outside, holds_there, from_within}
use Rattle.compose_writing.specs.Conditions.{with_these, all_known, unnamed, if_all, if_scope, known_behind, type_known_behind, entries_known_behind}
use Rattle.compose_known.specs.InOrder.{IsApart, parts_mention}
use Rattle.compose_needs.specs.DeepLaws.{deepen, deepened, entries_deep}
use Rattle.compose_known.proofs.MentionLaws.{all_have, among_mention, filter_has, further_out, has_either, has_first, has_itself, has_one, has_then, in_leaves, leaves_mentioned, name_itself, outwards-append, outwards_out}

-- ---- things and mentions

abbrev name_in : Thing → Name
name_in t = record { out = t.out; number = t.number }

abbrev pub key_of : Thing → Mention
key_of t = if t.is_type then OfPlace (name_in t) else OfResource (name_in t)

thing_in : Mention → Thing
thing_in (OfResource n) = resource n
thing_in (OfPlace n) = named_type n

-- ---- what is mentioned by values and functions

abbrev AtDepth : ℕ → List (ℕ × Mention) → Type 0
AtDepth d xs = AllByRecursion (λ (x : ℕ × Mention). x.0 ≡ d) xs

both_at : (d : ℕ) (xs ys : List (ℕ × Mention)) → AtDepth d xs → AtDepth d ys → AtDepth d (xs ++ ys)
both_at d [] ys a b = b
both_at d (x ∷ xs) ys a b = (a.0, both_at d xs ys a.1 b)

place_at : (d : ℕ) (p : Option Name) → AtDepth d (at_place d p)
place_at d None = tt
place_at d (Some n) = (refl, tt)

mutual
  value_at : (d : ℕ) (t : ValueTree) → AtDepth d (in_value d t)
  value_at d (Primitive p) = tt
  value_at d (TupleOf ts) = values_at d ts
  value_at d (RecordOf p cs) = both_at d (at_place d p) (in_cases d cs) (place_at d p) (cases_at d cs)
  value_at d (VariantOf p cs) = both_at d (at_place d p) (in_cases d cs) (place_at d p) (cases_at d cs)
  value_at d (ListOf t) = value_at d t
  value_at d (FlagsOf p ls) = place_at d p
  value_at d (EnumOf p ls) = place_at d p
  value_at d (OptionOf t) = value_at d t
  value_at d (ResultOf ok err) = both_at d (in_payload d ok) (in_payload d err) (payload_at d ok) (payload_at d err)
  value_at d (Own r) = (refl, tt)
  value_at d (Borrow r) = (refl, tt)

  values_at : (d : ℕ) (ts : ValueTrees) → AtDepth d (in_values d ts)
  values_at d none = tt
  values_at d (more t ts) = both_at d (in_value d t) (in_values d ts) (value_at d t) (values_at d ts)

  cases_at : (d : ℕ) (cs : Cases) → AtDepth d (in_cases d cs)
  cases_at d no_case = tt
  cases_at d (labelled label p cs) = both_at d (in_payload d p) (in_cases d cs) (payload_at d p) (cases_at d cs)

  payload_at : (d : ℕ) (p : Payload) → AtDepth d (in_payload d p)
  payload_at d absent = tt
  payload_at d (present t) = value_at d t

params_at : (d : ℕ) (ps : List (List ℕ × ValueTree)) → AtDepth d (flat_map (λ p. in_value d p.1) ps)
params_at d [] = tt
params_at d (p ∷ ps) = both_at d (in_value d p.1) (flat_map (λ p. in_value d p.1) ps) (value_at d p.1) (params_at d ps)

result_at : (d : ℕ) (ts : List ValueTree) → AtDepth d (flat_map (in_value d) ts)
result_at d [] = tt
result_at d (t ∷ ts) = both_at d (in_value d t) (flat_map (in_value d) ts) (value_at d t) (result_at d ts)

func_at : (d : ℕ) (f : FuncTree) → AtDepth d (in_func d f)
func_at d f =
    both_at d (flat_map (λ p. in_value d p.1) f.params) (flat_map (in_value d) (option_to_list f.result))
    (params_at d f.params) (result_at d (option_to_list f.result))

around_here : (thing : Name → Thing) (d : ℕ) (n : Name) → d ≡ 0 → has (around thing d n) (thing n) ≡ true
around_here thing d n at =
    let there : nat_le d n.out ≡ true = le-leb d n.out (omega (arith, at)) in
    let same : n.out - d ≡ n.out = omega (arith, at) in
    ap (λ b. has (if b then thing (record { out = n.out - d; number = n.number }) ∷ [] else []) (thing n)) there
    ∙ ap (λ out. has (thing (record { out = out; number = n.number }) ∷ []) (thing n)) same ∙ has_itself (thing n) []

outward_here : (x : ℕ × Mention) → x.0 ≡ 0 → has (outward x) (thing_in x.1) ≡ true
unfolding thing_in
outward_here (d, OfResource n) at = around_here resource d n at
outward_here (d, OfPlace n) at = around_here named_type d n at

key_itself : (m : Mention) → key_of (thing_in m) ≡ m
unfolding thing_in
key_itself (OfResource n) = refl
key_itself (OfPlace n) = refl

-- where each thing that is mentioned is known, all mentions are
all_at : (f : Mention → Bool) (xs : List (ℕ × Mention)) → AtDepth 0 xs
    → ((t : Thing) → has (outwards xs) t ≡ true → f (key_of t) ≡ true) → all_known f xs ≡ true
all_at f [] at h = refl
all_at f (x ∷ xs) at h =
    and_from (f x.1) (all_known f xs) (ap f (sym (key_itself x.1))
    ∙ h (thing_in x.1) (has_first (outward x) (outwards xs) (thing_in x.1) (outward_here x at.0)))
    (all_at f xs at.1 (λ t k. h t (has_then (outward x) (outwards xs) t k)))

-- ---- places along leaves

abbrev pub Leaves : Type 0
Leaves = List (Path × EntityTree)

-- what an entity mentions that has to be known before it
abbrev pub asked_of : EntityTree → List Thing
asked_of (IsType (Value t)) = parts_mention t
asked_of (IsType (Resource r)) = []
asked_of e = mentioned e

-- a thing was known, or is named here
abbrev pub And : (Thing → Type 0) → Option Thing → Thing → Type 0
And S o t = S t ⊎ (has (option_to_list o) t ≡ true)

abbrev pub Behind : (Thing → Type 0) → Leaves → Thing → Type 0
Behind S [] = S
Behind S (l ∷ ls) = Behind (And S (named_by l.1)) ls

-- each leaf asks for nothing but what was known, or named by a leaf before it
abbrev pub Met : (Thing → Type 0) → Leaves → Type 0
Met S [] = Unit {0}
Met S (l ∷ ls) = ((t : Thing) → has (asked_of l.1) t ≡ true → S t) × Met (And S (named_by l.1)) ls

abbrev pub Covers : (Mention → Bool) → (Thing → Type 0) → Type 0
Covers f S = (t : Thing) → S t → f (key_of t) ≡ true

pub met_first : (S : Thing → Type 0) (xs ys : Leaves) → Met S (xs ++ ys) → Met S xs
met_first S [] ys m = tt
met_first S (x ∷ xs) ys m = (m.0, met_first (And S (named_by x.1)) xs ys m.1)

pub met_then : (S : Thing → Type 0) (xs ys : Leaves) → Met S (xs ++ ys) → Met (Behind S xs) ys
met_then S [] ys m = m
met_then S (x ∷ xs) ys m = met_then (And S (named_by x.1)) xs ys m.1

pub covers_both : (f : Mention → Bool) (S : Thing → Type 0) (xs ys : Leaves) → Covers f (Behind (Behind S xs) ys)
    → Covers f (Behind S (xs ++ ys))
covers_both f S [] ys c = c
covers_both f S (x ∷ xs) ys c = covers_both f (And S (named_by x.1)) xs ys c

-- something is known behind these leaves
pub record Goes (S : Thing → Type 0) (ls : Leaves) (w : Option (Mention → Bool)) : Type 0 where
  pub next : Mention → Bool
  pub is : w ≡ Some next
  pub covers : Covers next (Behind S ls)

-- ---- what the trees of an entity see to, at any depth

abbrev pub place_for : (Thing → Bool) → Leaf → Place
place_for p l = record { named = option_to_list l.named; asked = filter p l.mentioned }

-- a thing of so many scopes
abbrev pub is_within : ℕ → Thing → Bool
is_within w t = nat_lt t.out w

abbrev pub tied_within : ℕ → List Leaf → Bool
tied_within w ls = are_tied [] (map (place_for (is_within w)) ls)

abbrev mutual
  pub TypeStands : TypeShapeTree → Type 0
  TypeStands (Value t) = IsApart t
  TypeStands (Resource r) = Unit {0}
  TypeStands (Func f) = Unit {0}
  TypeStands (Instance es) = (tied_within 1 (leaves_among [] es) ≡ true) × AllStand es
  TypeStands (Component is es) =
      (tied_within 2 (leaves_among [] is ++ leaves_among [] es) ≡ true) × AllStand is × AllStand es

  pub Stands : EntityTree → Type 0
  Stands (IsType t) = TypeStands t
  Stands (IsFunc f) = Unit {0}
  Stands (IsInstance es) = AllStand es
  Stands (IsComponent is es) =
      (tied_within 2 (leaves_among [] is ++ leaves_among [] es) ≡ true) × AllStand is × AllStand es
  Stands (IsModule m) = Unit {0}
  Stands IsOwnModule = ⊥

  pub AllStand : Entries → Type 0
  AllStand no_entry = Unit {0}
  AllStand (entry name e mark es) = Stands e × AllStand es

-- a leaf does not ask for what it names
abbrev pub LeafApart : Path × EntityTree → Type 0
LeafApart l = (t : Thing) → has (asked_of l.1) t ≡ true → has (option_to_list (named_by l.1)) t ≡ true → ⊥

value_apart : (t : ValueTree) (p : Option Name) → place_of t ≡ p → IsApart t → (x : Thing)
    → has (parts_mention t) x ≡ true → has (option_to_list (option_map named_type p)) x ≡ true → ⊥
value_apart t None is a x h k = absurd cc
value_apart t (Some n) is a x h k =
    let same = has_one (named_type n) x k in
    let h : has (parts_mention t) (named_type n) ≡ true = ap (has (parts_mention t)) same ∙ h in
    let no = a n is in absurd cc

leaf_apart : (e : EntityTree) (path : Path) → Stands e → LeafApart (path, e)
leaf_apart (IsType (Value t)) path s x h k = value_apart t (place_of t) refl s x h k
leaf_apart (IsType (Resource r)) path s x h k = absurd cc
leaf_apart (IsType (Func f)) path s x h k = absurd cc
leaf_apart (IsType (Instance es)) path s x h k = absurd cc
leaf_apart (IsType (Component is es)) path s x h k = absurd cc
leaf_apart (IsFunc f) path s x h k = absurd cc
leaf_apart (IsInstance es) path s x h k = absurd cc
leaf_apart (IsComponent is es) path s x h k = absurd cc
leaf_apart (IsModule m) path s x h k = absurd cc
leaf_apart IsOwnModule path s x h k = absurd cc

pub both_all : {X : Type 0} (P : X → Type 0) (xs ys : List X) → AllByRecursion P xs → AllByRecursion P ys
    → AllByRecursion P (xs ++ ys)
both_all P [] ys a b = b
both_all P (x ∷ xs) ys a b = (a.0, both_all P xs ys a.1 b)

pub all_split : {X : Type 0} (P : X → Type 0) (xs ys : List X) → AllByRecursion P (xs ++ ys)
    → AllByRecursion P xs × AllByRecursion P ys
all_split P [] ys h = (tt, h)
all_split P (x ∷ xs) ys h = let rest = all_split P xs ys h.1 in ((h.0, rest.0), rest.1)

mutual
  pub leaves_apart : (path : Path) (e : EntityTree) → Stands e → AllByRecursion LeafApart (leaves_of path e)
  leaves_apart path (IsType t) s = (leaf_apart (IsType t) path s, tt)
  leaves_apart path (IsFunc f) s = (leaf_apart (IsFunc f) path s, tt)
  leaves_apart path (IsInstance es) s = among_apart path es s
  leaves_apart path (IsComponent is es) s = (leaf_apart (IsComponent is es) path s, tt)
  leaves_apart path (IsModule m) s = (leaf_apart (IsModule m) path s, tt)
  leaves_apart path IsOwnModule s = absurd s

  among_apart : (path : Path) (es : Entries) → AllStand es → AllByRecursion LeafApart (leaves_in path es)
  among_apart path no_entry s = tt
  among_apart path (entry name e mark es) s =
      both_all LeafApart (leaves_of (path ++ name ∷ []) e) (leaves_in path es) (leaves_apart (path ++ name ∷ []) e s.0)
      (among_apart path es s.1)

-- what is asked for is mentioned
value_asked : (t : ValueTree) (x : Thing) → has (parts_mention t) x ≡ true → has (mentioned (IsType (Value t))) x ≡ true
value_asked (Primitive p) x h = h
value_asked (TupleOf ts) x h = h
value_asked (RecordOf p cs) x h =
    ap (λ ts. has ts x) (outwards-append (at_place 0 p) (in_cases 0 cs))
    ∙ has_then (outwards (at_place 0 p)) (outwards (in_cases 0 cs)) x h
value_asked (VariantOf p cs) x h =
    ap (λ ts. has ts x) (outwards-append (at_place 0 p) (in_cases 0 cs))
    ∙ has_then (outwards (at_place 0 p)) (outwards (in_cases 0 cs)) x h
value_asked (ListOf t) x h = h
value_asked (FlagsOf p ls) x h = absurd cc
value_asked (EnumOf p ls) x h = absurd cc
value_asked (OptionOf t) x h = h
value_asked (ResultOf ok err) x h = h
value_asked (Own r) x h = h
value_asked (Borrow r) x h = h

pub asked_mentioned : (e : EntityTree) (x : Thing) → has (asked_of e) x ≡ true → has (mentioned e) x ≡ true
asked_mentioned (IsType (Value t)) x h = value_asked t x h
asked_mentioned (IsType (Resource r)) x h = absurd cc
asked_mentioned (IsType (Func f)) x h = h
asked_mentioned (IsType (Instance es)) x h = h
asked_mentioned (IsType (Component is es)) x h = h
asked_mentioned (IsFunc f) x h = h
asked_mentioned (IsInstance es) x h = h
asked_mentioned (IsComponent is es) x h = h
asked_mentioned (IsModule m) x h = h
asked_mentioned IsOwnModule x h = h

-- Where what leaves mention of one kind is tied, and all else that they mention is known, they are met.
module _ (p : Thing → Bool) (g : Mention → Bool) where
  abbrev pub OthersKnown : Leaves → Type 0
  OthersKnown ls = (t : Thing) → has (leaves_mentioned ls) t ≡ true → p t ≡ false → g (key_of t) ≡ true

  pub tied_met : (ls : Leaves) (seen : List Thing) (S : Thing → Type 0) → ((t : Thing) → g (key_of t) ≡ true → S t)
      → ((t : Thing) → has seen t ≡ true → S t)
      → are_tied seen (map (place_for p) (map leaf_of ls)) ≡ true → OthersKnown ls → AllByRecursion LeafApart ls
      → Met S ls
  tied_met [] seen S known is tied far apart = tt
  tied_met (l ∷ ls) seen S known is tied far apart =
      let named = option_to_list (named_by l.1) in
      let parts = and_parts (list_all (has (seen ++ named)) (filter p (mentioned l.1)))
      (are_tied (seen ++ named) (map (place_for p) (map leaf_of ls))) tied in
      let split = outwards-append (in_entity 0 l.1) (in_leaves 0 ls) in (
        λ t asked. one t asked (p t) refl parts.0 split,
        tied_met ls (seen ++ named) (And S (named_by l.1)) (λ t k. inl (known t k))
            (λ t k. more t (has_either seen named t k)) parts.1
            (λ t h. far t (ap (λ ts. has ts t) split ∙ has_then (mentioned l.1) (leaves_mentioned ls) t h)) apart.1,
      )
    where
      more : (t : Thing) → (has seen t ≡ true) ⊎ (has (option_to_list (named_by l.1)) t ≡ true) → And S (named_by l.1) t
      more t (inl h) = inl (is t h)
      more t (inr h) = inr h

      before : (t : Thing) → has (asked_of l.1) t ≡ true
          → (has seen t ≡ true) ⊎ (has (option_to_list (named_by l.1)) t ≡ true) → S t
      before t asked (inl h) = is t h
      before t asked (inr h) = absurd (apart.0 t asked h)

      one : (t : Thing) → has (asked_of l.1) t ≡ true → (b : Bool) → p t ≡ b
          → list_all (has (seen ++ option_to_list (named_by l.1))) (filter p (mentioned l.1)) ≡ true
          → outwards (in_entity 0 l.1 ++ in_leaves 0 ls) ≡ mentioned l.1 ++ leaves_mentioned ls → S t
      one t asked true e all split =
          before t asked (has_either seen (option_to_list (named_by l.1)) t
          (all_have (has (seen ++ option_to_list (named_by l.1))) (filter p (mentioned l.1)) t all
          (filter_has p (mentioned l.1) t e (asked_mentioned l.1 t asked))))
      one t asked false e all split =
          known t (far t (ap (λ ts. has ts t) split
          ∙ has_first (mentioned l.1) (leaves_mentioned ls) t (asked_mentioned l.1 t asked)) e)

-- ---- from within a scope

inward_name : (w : ℕ) (n : Name) → nat_lt n.out w ≡ false
    → name_outside w n ≡ Some (record { out = n.out - w; number = n.number })
inward_name w n e = ap (λ b. if b then None else Some (record { out = n.out - w; number = n.number })) e

inward : (w : ℕ) (f : Mention → Bool) (t : Thing) → nat_lt t.out w ≡ false
    → from_within w f (key_of t) ≡ f (key_of (record t { out = t.out - w }))
inward w f t e = go t.is_type
  where
    go : (b : Bool) → holds_there f (mention_outside w (if b then OfPlace (name_in t) else OfResource (name_in t)))
        ≡ f (if b then OfPlace (record { out = t.out - w; number = t.number }) else OfResource
        (record { out = t.out - w; number = t.number }))
    go true = ap (λ o. holds_there f (option_map OfPlace o)) (inward_name w (name_in t) e)
    go false = ap (λ o. holds_there f (option_map OfResource o)) (inward_name w (name_in t) e)

module _ (f : Mention → Bool) (S : Thing → Type 0) (c : Covers f S) (ls : Leaves) (xs : List (ℕ × Mention))
    (met : (t : Thing) → has (outwards xs) t ≡ true → S t) where
  far_one : xs ≡ deepened (in_leaves 0 ls) → OthersKnown (is_within 1) (from_within 1 f) ls
  far_one is t h e =
      let there = ltb-false t.out 1 e in
      let nearer : Thing = record t { out = t.out - 1 } in
      let back : t ≡ further_out nearer = (let out : t.out
      ≡ suc (t.out - 1) =
      omega (arith, there) in λ i. record { is_type = t.is_type; out = out i; number = t.number }) in
      inward 1 f t e ∙ c nearer (met nearer (ap (λ xs. has (outwards xs) nearer) is
      ∙ outwards_out (in_leaves 0 ls) nearer (sym (ap (has (leaves_mentioned ls)) back) ∙ h)))

  far_two : xs ≡ deepened (deepened (in_leaves 0 ls)) → OthersKnown (is_within 2) (from_within 2 f) ls
  far_two is t h e =
      let there = ltb-false t.out 2 e in
      let nearer : Thing = record t { out = t.out - 2 } in
      let back : t ≡ further_out (further_out nearer) =
      (let out : t.out ≡ suc (suc (t.out - 2)) =
      omega (arith, there) in λ i. record { is_type = t.is_type; out = out i; number = t.number }) in
      inward 2 f t e ∙ c nearer (met nearer (ap (λ xs. has (outwards xs) nearer) is
      ∙ outwards_out (deepened (in_leaves 0 ls)) nearer
      (outwards_out (in_leaves 0 ls) (further_out nearer) (sym (ap (has (leaves_mentioned ls)) back) ∙ h))))

-- ---- one leaf

all_if : (f next : Mention → Bool) (xs : List (ℕ × Mention)) → all_known f xs ≡ true → if_all f xs next ≡ Some next
all_if f next xs h = ap (λ b. if b then Some next else None) h

scope_if : (f inner : Mention → Bool) (w : Option (Mention → Bool)) → w ≡ Some inner → if_scope f w ≡ Some f
scope_if f inner w h = ap (λ w. if is_some w then Some f else None) h

none_named : (f : Mention → Bool) (S : Thing → Type 0) → Covers f S → Covers f (And S None)
none_named f S c t (inl s) = c t s
none_named f S c t (inr h) = absurd cc

value_named : (f : Mention → Bool) (S : Thing → Type 0) (p : Option Name) → Covers f S
    → Covers (with_these f (named_value p)) (And S (option_map named_type p))
value_named f S p c t (inl s) =
    or_left (f (key_of t)) (list_any (λ key. same_mention key (key_of t)) (named_value p)) (c t s)
value_named f S None c t (inr h) = absurd cc
value_named f S (Some n) c t (inr h) =
    ap (λ x. with_these f (OfPlace n ∷ []) (key_of x)) (sym (has_one (named_type n) t h))
    ∙ or_right (f (OfPlace n)) (same_name n n || false) (or_left (same_name n n) false (name_itself n))

resource_named : (f : Mention → Bool) (S : Thing → Type 0) (n : Name) → Covers f S
    → Covers (with_these f (OfResource n ∷ [])) (And S (Some (resource n)))
resource_named f S n c t (inl s) =
    or_left (f (key_of t)) (list_any (λ key. same_mention key (key_of t)) (OfResource n ∷ [])) (c t s)
resource_named f S n c t (inr h) =
    ap (λ x. with_these f (OfResource n ∷ []) (key_of x)) (sym (has_one (resource n) t h))
    ∙ or_right (f (OfResource n)) (same_name n n || false) (or_left (same_name n n) false (name_itself n))

func_goes : (g : FuncTree) (f : Mention → Bool) (S : Thing → Type 0) → Covers f S
    → ((t : Thing) → has (outwards (in_func 0 g)) t ≡ true → S t) → if_all f (in_func 0 g) f ≡ Some f
func_goes g f S c m = all_if f f (in_func 0 g) (all_at f (in_func 0 g) (func_at 0 g) (λ t h. c t (m t h)))

-- leaves of two sides, and what they mention
sides_deep : (is es : Entries)
    → in_entries 2 is ++ in_entries 2 es ≡ deepened (deepened (in_leaves 0 (leaves_in [] is ++ leaves_in [] es)))
sides_deep is es =
    (λ i. two is i ++ two es i) ∙ sym (map-append deepen (deepened (in_leaves 0 (leaves_in [] is)))
    (deepened (in_leaves 0 (leaves_in [] es))))
    ∙ ap deepened (sym (map-append deepen (in_leaves 0 (leaves_in [] is)) (in_leaves 0 (leaves_in [] es))))
    ∙ ap (λ xs. deepened (deepened xs)) (sym
    (flat_map-append (λ (l : Path × EntityTree). in_entity 0 l.1) (leaves_in [] is) (leaves_in [] es)))
  where
    two : (es : Entries) → in_entries 2 es ≡ deepened (deepened (in_leaves 0 (leaves_in [] es)))
    two es = entries_deep 1 es ∙ ap deepened (entries_deep 0 es)
        ∙ ap (λ xs. deepened (deepened xs)) (sym (among_mention 0 [] es))

-- what is known within two scopes
abbrev InTwo : (Mention → Bool) → Thing → Type 0
InTwo f t = from_within 2 f (key_of t) ≡ true

sides_go : (is es : Entries) (f : Mention → Bool) (S : Thing → Type 0) → Covers f S
    → ((x : Thing) → has (outwards (in_entries 2 is ++ in_entries 2 es)) x ≡ true → S x)
    → (tied_within 2 (leaves_among [] is ++ leaves_among [] es) ≡ true) × AllStand is × AllStand es
    → (Met (InTwo f) (leaves_in [] is) → Goes (InTwo f) (leaves_in [] is) (entries_known_behind (from_within 2 f) is))
    → ((next : Mention → Bool) → Covers next (Behind (InTwo f) (leaves_in [] is))
    → Met (Behind (InTwo f) (leaves_in [] is)) (leaves_in [] es)
    → Goes (Behind (InTwo f) (leaves_in [] is)) (leaves_in [] es) (entries_known_behind next es))
    → if_scope f (option_and_then (λ next. entries_known_behind next es) (entries_known_behind (from_within 2 f) is))
    ≡ Some f
sides_go is es f S c m s imports exports =
    let both = leaves_in [] is ++ leaves_in [] es in
    let far = far_two f S c both (in_entries 2 is ++ in_entries 2 es) m (sides_deep is es) in
    let tied : are_tied [] (map (place_for (is_within 2)) (map leaf_of both))
    ≡ true = ap (λ ls. are_tied [] (map (place_for (is_within 2)) ls))
    (map-append leaf_of (leaves_in [] is) (leaves_in [] es)) ∙ s.0 in
    let met = tied_met (is_within 2) (from_within 2 f) both [] (InTwo f) (λ t h. h) (λ t h. absurd cc) tied far
    (both_all LeafApart (leaves_in [] is) (leaves_in [] es) (among_apart [] is s.1) (among_apart [] es s.2)) in
    let first = imports (met_first (InTwo f) (leaves_in [] is) (leaves_in [] es) met) in
    let later = exports first.next first.covers (met_then (InTwo f) (leaves_in [] is) (leaves_in [] es) met) in
    scope_if f later.next (option_and_then (λ next. entries_known_behind next es)
    (entries_known_behind (from_within 2 f) is))
    (ap (option_and_then (λ next. entries_known_behind next es)) first.is ∙ later.is)

mutual
  pub entity_goes : (e : EntityTree) (f : Mention → Bool) (S : Thing → Type 0) (path : Path) → Covers f S
      → Met S (leaves_of path e) → Stands e → Goes S (leaves_of path e) (known_behind f e)
  entity_goes (IsType t) f S path c m s = type_goes t f S path c m.0 s
  entity_goes (IsFunc g) f S path c m s = record { next = f; is = func_goes g f S c m.0; covers = none_named f S c }
  entity_goes (IsInstance es) f S path c m s = entries_goes es f S path c m s
  entity_goes (IsComponent is es) f S path c m s =
      record {
        next =
            f;
        is = sides_go is es f S c m.0 s (λ met. entries_goes is (from_within 2 f) (InTwo f) [] (λ t h. h) met s.1)
            (λ next covers met. entries_goes es next (Behind (InTwo f) (leaves_in [] is)) [] covers met s.2);
        covers =
            none_named f S c;
      }
  entity_goes (IsModule x) f S path c m s = record { next = f; is = refl; covers = none_named f S c }
  entity_goes IsOwnModule f S path c m s = absurd s

  type_goes : (t : TypeShapeTree) (f : Mention → Bool) (S : Thing → Type 0) (path : Path) → Covers f S
      → ((x : Thing) → has (asked_of (IsType t)) x ≡ true → S x) → TypeStands t
      → Goes S ((path, IsType t) ∷ []) (type_known_behind f t)
  type_goes (Value t) f S path c m s = record {
    next = with_these f (named_value (place_of t));
    is = all_if f (with_these f (named_value (place_of t))) (in_value 0 (unnamed t))
        (all_at f (in_value 0 (unnamed t)) (value_at 0 (unnamed t)) (λ t h. c t (m t h)));
    covers = value_named f S (place_of t) c;
  }
  type_goes (Resource r) f S path c m s =
      record { next = with_these f (OfResource r ∷ []); is = refl; covers = resource_named f S r c }
  type_goes (Func g) f S path c m s = record { next = f; is = func_goes g f S c m; covers = none_named f S c }
  type_goes (Instance es) f S path c m s =
      let S' : Thing → Type 0 = λ t. from_within 1 f (key_of t) ≡ true in
      let deep : in_entries 1 es ≡ deepened (in_leaves 0 (leaves_in [] es)) = entries_deep 0 es
      ∙ ap deepened (sym (among_mention 0 [] es)) in
      let far = far_one f S c (leaves_in [] es) (in_entries 1 es) m deep in
      let within = entries_goes es (from_within 1 f) S' [] (λ t h. h)
      (tied_met (is_within 1) (from_within 1 f) (leaves_in [] es) [] S' (λ t h. h) (λ t h. absurd cc) s.0 far
      (among_apart [] es s.1)) s.1 in
      record {
        next =
            f;
        is = scope_if f within.next (entries_known_behind (from_within 1 f) es) within.is;
        covers = none_named
            f S c;
      }
  type_goes (Component is es) f S path c m s =
      record {
        next =
            f;
        is = sides_go is es f S c m s (λ met. entries_goes is (from_within 2 f) (InTwo f) [] (λ t h. h) met s.1)
            (λ next covers met. entries_goes es next (Behind (InTwo f) (leaves_in [] is)) [] covers met s.2);
        covers =
            none_named f S c;
      }

  pub entries_goes : (es : Entries) (f : Mention → Bool) (S : Thing → Type 0) (path : Path) → Covers f S
      → Met S (leaves_in path es) → AllStand es → Goes S (leaves_in path es) (entries_known_behind f es)
  entries_goes no_entry f S path c m s = record { next = f; is = refl; covers = c }
  entries_goes (entry name e mark es) f S path c m s =
      let here = leaves_of (path ++ name ∷ []) e in
      let first = entity_goes e f S (path ++ name ∷ []) c (met_first S here (leaves_in path es) m) s.0 in
      let later = entries_goes es first.next (Behind S here) path first.covers
      (met_then S here (leaves_in path es) m) s.1 in
      record {
        next = later.next;
        is = ap (option_and_then (λ next. entries_known_behind next es)) first.is ∙ later.is;
        covers = covers_both later.next S here (leaves_in path es) later.covers;
      }
