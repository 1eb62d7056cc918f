-- What a settled import mentions, and itself brings or exports, stands in it there or earlier.
use Rattle.std.proofs.Common.{◌≡◌, ◌⊎◌, inl, inr, ◌||◌, Bool, true, false, List, [], ◌∷◌, ◌++◌, map, Option, Some, None, refl, sym, ap, subst, ◌∙◌}
use Rattle.std.specs.Prelude.{filter, is_none, is_some, option_to_list, if◌then◌else◌}
use Rattle.std.specs.List.{AllByRecursion, list_all}
use Rattle.std.specs.Option.{option_or}
use Rattle.std.proofs.lemmas.Bool.{and_from, and_parts, or_left}
use Rattle.std.proofs.lemmas.Option.{same_Some}
use Rattle.comp_entity.specs.Entity.{Name, EntityTree}
use Rattle.comp_entity.specs.Fits.{same_name}
use Rattle.comp_entity.specs.Names.{Mention, in_entity}
use Rattle.comp_entity.specs.Places.{Path, leaves_of}
use Rattle.compose_left.specs.declared.spots.Spot.{Spot}
use Rattle.compose_left.specs.declared.spots.Thing.{Thing}
use Rattle.compose_left.specs.Origins.{same_path}
use Rattle.compose_left.specs.Spots.{named_by, named_type, resource}
use Rattle.compose_needs.specs.declared.leaves.Leaf.{Leaf}
use Rattle.compose_needs.specs.Leaves.{leaf_of, leaves_at}
use Rattle.compose_needs.specs.Lefts.{Lefts}
use Rattle.compose_needs.specs.Mentioned.{has, mentioned, outwards}
use Rattle.compose_needs.specs.Tied.{are_tied, entity_holds_tied}
use Rattle.compose_order.specs.Needs.{LeftTree, called_at, is_at, is_bound, is_of, is_own, left_place, left_places, thing_of}
use Rattle.compose_writing.specs.Conditions.{KeepsForm, is_known}
use Rattle.compose_naming.specs.Settled.{WrittenNames, along_leaves, at_leaf, called_as, is_type, name_in, names_of, settled, written_as}
use Rattle.compose_known.specs.InOrder.{IsInOrder}
use Rattle.compose_known.proofs.BehindLaws.{And, LeafApart, Leaves, Met, asked_mentioned, asked_of, entity_goes, key_of, leaves_apart}
use Rattle.compose_known.proofs.CalledLaws.{CallsWhatStands, IsCalledAsItStands, called_as_it_stands}
use Rattle.compose_known.proofs.ChangedLaws.{IsChanged, change, changed, changed_mentions, entity_tied, leaf_by, leaves_changed, named_here}
use Rattle.compose_known.proofs.FormLaws.{entity_keeps}
use Rattle.compose_known.proofs.MentionLaws.{all_have, filter_has, has_either, has_first, has_itself, has_one, has_then, in_leaves, leaves_mention, leaves_mentioned, name_is, name_itself, outwards-append}
use Rattle.compose_known.proofs.TopLaws.{NeedsKnown, entity_stands}

-- ---- written names

-- the name by which one is written, where it is called
bound : WrittenNames → Name → Option Name
bound [] n = None
bound (w ∷ ws) n = if same_name w.0 n then Some w.1 else bound ws n

none_bound : {P : Type 0} (n r : Name) → bound [] n ≡ Some r → P
unfolding bound
none_bound n r h = absurd cc

written_bound : (ws : WrittenNames) (n r : Name) → bound ws n ≡ Some r → written_as ws n ≡ r
unfolding bound
written_bound [] n r h = absurd cc
written_bound (w ∷ ws) n r h = one (same_name w.0 n) h (written_bound ws n r)
  where
    one : (b : Bool) → (if b then Some w.1 else bound ws n) ≡ Some r → (bound ws n ≡ Some r → written_as ws n ≡ r)
        → (if b then w.1 else written_as ws n) ≡ r
    one true h rest = same_Some w.1 r h
    one false h rest = rest h

written_free : (ws : WrittenNames) (n : Name) → bound ws n ≡ None → written_as ws n ≡ n
unfolding bound
written_free [] n h = refl
written_free (w ∷ ws) n h = one (same_name w.0 n) h (written_free ws n)
  where
    one : (b : Bool) → (if b then Some w.1 else bound ws n) ≡ None → (bound ws n ≡ None → written_as ws n ≡ n)
        → (if b then w.1 else written_as ws n) ≡ n
    one true h rest = absurd cc
    one false h rest = rest h

bound_both : (ws vs : WrittenNames) (n : Name) → bound (ws ++ vs) n ≡ option_or (bound ws n) (bound vs n)
unfolding bound
bound_both [] vs n = refl
bound_both (w ∷ ws) vs n = one (same_name w.0 n) (bound_both ws vs n)
  where
    one : (b : Bool) → bound (ws ++ vs) n ≡ option_or (bound ws n) (bound vs n)
        → (if b then Some w.1 else bound (ws ++ vs) n) ≡ option_or (if b then Some w.1 else bound ws n) (bound vs n)
    one true rest = refl
    one false rest = rest

bound_first : (ws vs : WrittenNames) (n r : Name) → bound ws n ≡ Some r → bound (ws ++ vs) n ≡ Some r
bound_first ws vs n r h = bound_both ws vs n ∙ ap (λ o. option_or o (bound vs n)) h

bound_then : (ws vs : WrittenNames) (n r : Name) → bound ws n ≡ None → bound vs n ≡ Some r → bound (ws ++ vs) n ≡ Some r
bound_then ws vs n r free h = bound_both ws vs n ∙ ap (λ o. option_or o (bound vs n)) free ∙ h

-- each type that is called at a place is bound
called_bound : (r : Name) (ts : List Thing) (t : Thing) → t.is_type ≡ true → has ts t ≡ true
    → bound (called_as r ts) (name_in t) ≡ Some r
unfolding bound
called_bound r [] t is h = absurd cc
called_bound r (x ∷ xs) t is h = one x.is_type refl (has_either (x ∷ []) xs t h) (called_bound r xs t is)
  where
    no : (b : Bool) → b ≡ false → b ≡ true → ⊥
    no true e k = absurd cc
    no false e k = absurd cc

    named : (c : Bool) → same_name (name_in x) (name_in t) ≡ c → (has (x ∷ []) t ≡ true) ⊎ (has xs t ≡ true)
        → (has xs t ≡ true → bound (called_as r xs) (name_in t) ≡ Some r)
        → (if c then Some r else bound (called_as r xs) (name_in t)) ≡ Some r
    named true e k rest = refl
    named false e (inl k) rest =
        absurd (no (same_name (name_in x) (name_in t)) e
        (ap (λ (y : Thing). same_name (name_in y) (name_in t)) (has_one x t k) ∙ name_itself (name_in t)))
    named false e (inr k) rest = rest k

    one : (b : Bool) → x.is_type ≡ b → (has (x ∷ []) t ≡ true) ⊎ (has xs t ≡ true)
        → (has xs t ≡ true → bound (called_as r xs) (name_in t) ≡ Some r)
        → bound (map (λ (t : Thing). (name_in t, r)) (if b then x ∷ filter is_type xs else filter is_type xs))
        (name_in t) ≡ Some r
    one true e k rest = named (same_name (name_in x) (name_in t)) refl k rest
    one false e (inl k) rest = absurd (no x.is_type e (ap (λ (y : Thing). y.is_type) (has_one x t k) ∙ is))
    one false e (inr k) rest = rest k

-- what is bound is called, by its name
record IsBoundBy (ts : List Thing) (n : Name) : Type 0 where
  thing : Thing
  kind : thing.is_type ≡ true
  name : name_in thing ≡ n
  among : has ts thing ≡ true

bound_called : (r : Name) (ts : List Thing) (n q : Name) → bound (called_as r ts) n ≡ Some q → (q ≡ r) × IsBoundBy ts n
unfolding bound
bound_called r [] n q h = absurd cc
bound_called r (x ∷ xs) n q h = one x.is_type refl h (bound_called r xs n q)
  where
    later : (q ≡ r) × IsBoundBy xs n → (q ≡ r) × IsBoundBy (x ∷ xs) n
    later k = (
      k.0,
      record {
        thing = k.1.thing;
        kind = k.1.kind;
        name = k.1.name;
        among = has_then
            (x ∷ []) xs k.1.thing k.1.among;
      },
    )

    named : x.is_type ≡ true → (c : Bool) → same_name (name_in x) n ≡ c
        → (if c then Some r else bound (called_as r xs) n) ≡ Some q
        → (bound (called_as r xs) n ≡ Some q → (q ≡ r) × IsBoundBy xs n) → (q ≡ r) × IsBoundBy (x ∷ xs) n
    named is true e h rest = (
      sym (same_Some r q h),
      record {
        thing = x;
        kind = is;
        name = name_is
            (name_in x) n e;
        among = has_itself x xs;
      },
    )
    named is false e h rest = later (rest h)

    one : (b : Bool) → x.is_type ≡ b
        → bound (map (λ (t : Thing). (name_in t, r)) (if b then x ∷ filter is_type xs else filter is_type xs)) n
        ≡ Some q → (bound (called_as r xs) n ≡ Some q → (q ≡ r) × IsBoundBy xs n) → (q ≡ r) × IsBoundBy (x ∷ xs) n
    one true e h rest = named e (same_name (name_in x) n) refl h rest
    one false e h rest = later (rest h)

-- ---- along leaves

leaf_bound : (calls : List Spot) (leaf : Leaf) (named : Option Thing) (ws : WrittenNames) (n r : Name)
    → bound ws n ≡ Some r → bound (at_leaf ws calls leaf named) n ≡ Some r
leaf_bound calls leaf None ws n r h = h
leaf_bound calls leaf (Some t) ws n r h =
    bound_first ws (called_as (written_as ws (name_in t)) (called_at calls leaf.path)) n r h

-- what is bound stays
still_bound : (calls : List Spot) (leaves : List Leaf) (ws : WrittenNames) (n r : Name) → bound ws n ≡ Some r
    → bound (along_leaves ws calls leaves) n ≡ Some r
still_bound calls [] ws n r h = h
still_bound calls (leaf ∷ leaves) ws n r h =
    still_bound calls leaves (at_leaf ws calls leaf leaf.named) n r (leaf_bound calls leaf leaf.named ws n r h)

called_there : (calls : List Spot) (path : Path) (t : Thing) → has (called_at calls path) t ≡ true
    → has (map thing_of calls) t ≡ true
called_there [] path t h = absurd cc
called_there (s ∷ ss) path t h = one (same_path s.path path) h (called_there ss path t)
  where
    one : (b : Bool) → has (map thing_of (if b then s ∷ filter (is_at path) ss else filter (is_at path) ss)) t ≡ true
        → (has (called_at ss path) t ≡ true → has (map thing_of ss) t ≡ true) → has (s.what ∷ map thing_of ss) t ≡ true
    one true h rest = go (has_either (s.what ∷ []) (called_at ss path) t h)
      where
        go : (has (s.what ∷ []) t ≡ true) ⊎ (has (called_at ss path) t ≡ true) → has (s.what ∷ map thing_of ss) t ≡ true
        go (inl k) = has_first (s.what ∷ []) (map thing_of ss) t k
        go (inr k) = has_then (s.what ∷ []) (map thing_of ss) t (rest k)
    one false h rest = has_then (s.what ∷ []) (map thing_of ss) t (rest h)

-- what is bound anew at a place is called there
leaf_called : (calls : List Spot) (leaf : Leaf) (named : Option Thing) (ws : WrittenNames) (n r : Name)
    → bound (at_leaf ws calls leaf named) n ≡ Some r → (bound ws n ≡ Some r) ⊎ IsBoundBy (called_at calls leaf.path) n
leaf_called calls leaf None ws n r h = inl h
leaf_called calls leaf (Some t) ws n r h =
    one (bound ws n) (sym (bound_both ws (called_as (written_as ws (name_in t)) (called_at calls leaf.path)) n) ∙ h)
  where
    one : (o : Option Name) → option_or o (bound (called_as (written_as ws (name_in t)) (called_at calls leaf.path)) n)
        ≡ Some r → (o ≡ Some r) ⊎ IsBoundBy (called_at calls leaf.path) n
    one None h = inr (bound_called (written_as ws (name_in t)) (called_at calls leaf.path) n r h).1
    one (Some q) h = inl h

all_called : (calls : List Spot) (leaves : List Leaf) (ws : WrittenNames) (n r : Name)
    → bound (along_leaves ws calls leaves) n ≡ Some r → (bound ws n ≡ Some r) ⊎ IsBoundBy (map thing_of calls) n
all_called calls [] ws n r h = inl h
all_called calls (leaf ∷ leaves) ws n r h = go (all_called calls leaves (at_leaf ws calls leaf leaf.named) n r h)
  where
    here : (bound ws n ≡ Some r) ⊎ IsBoundBy (called_at calls leaf.path) n
        → (bound ws n ≡ Some r) ⊎ IsBoundBy (map thing_of calls) n
    here (inl k) = inl k
    here (inr b) =
        inr (record {
          thing = b.thing;
          kind = b.kind;
          name = b.name;
          among = called_there calls leaf.path b.thing b.among;
        })

    go : (bound (at_leaf ws calls leaf leaf.named) n ≡ Some r) ⊎ IsBoundBy (map thing_of calls) n
        → (bound ws n ≡ Some r) ⊎ IsBoundBy (map thing_of calls) n
    go (inl k) = here (leaf_called calls leaf leaf.named ws n r k)
    go (inr b) = inr b

-- ---- what is mentioned stands

-- each leaf mentions nothing but what was known, or stands there or before
abbrev pub IsTied : (Thing → Type 0) → Leaves → Type 0
IsTied S [] = Unit {0}
IsTied S (l ∷ ls) =
    ((t : Thing) → has (mentioned l.1) t ≡ true → And S (named_by l.1) t) × IsTied (And S (named_by l.1)) ls

apart_met : (S : Thing → Type 0) (ls : Leaves) → IsTied S ls → AllByRecursion LeafApart ls → Met S ls
apart_met S [] tied apart = tt
apart_met S (l ∷ ls) tied apart = (
  λ t asked. before t asked (tied.0 t (asked_mentioned l.1 t asked)),
  apart_met (And S (named_by l.1)) ls tied.1 apart.1,
)
  where
    before : (t : Thing) → has (asked_of l.1) t ≡ true → And S (named_by l.1) t → S t
    before t asked (inl s) = s
    before t asked (inr h) = absurd (apart.0 t asked h)

filtered : (p : Thing → Bool) (xs : List Thing) (t : Thing) → has (filter p xs) t ≡ true → has xs t ≡ true
filtered p [] t h = absurd cc
filtered p (x ∷ xs) t h = one (p x) h (filtered p xs t)
  where
    go : (has (x ∷ []) t ≡ true) ⊎ (has (filter p xs) t ≡ true) → (has (filter p xs) t ≡ true → has xs t ≡ true)
        → has (x ∷ xs) t ≡ true
    go (inl k) rest = has_first (x ∷ []) xs t k
    go (inr k) rest = has_then (x ∷ []) xs t (rest k)

    one : (b : Bool) → has (if b then x ∷ filter p xs else filter p xs) t ≡ true
        → (has (filter p xs) t ≡ true → has xs t ≡ true) → has (x ∷ xs) t ≡ true
    one true h rest = go (has_either (x ∷ []) (filter p xs) t h) rest
    one false h rest = has_then (x ∷ []) xs t (rest h)

-- a resource stays as it is called
abbrev pub same : Name → Name
same n = n

module _ (left : Lefts) (l : LeftTree) where
  abbrev pub now : Thing → Thing
  now = changed same (written_as (names_of l))

  abbrev leaf_now : Path × EntityTree → Path × EntityTree
  leaf_now = leaf_by same (written_as (names_of l)) 0

  type_now : (t : Thing) → t.is_type ≡ true → now t ≡ named_type (written_as (names_of l) (name_in t))
  type_now t is = ap (λ b. if b then named_type (written_as (names_of l) (name_in t)) else resource (name_in t)) is

  pub resource_now : (t : Thing) → t.is_type ≡ false → now t ≡ t
  resource_now t is =
      ap (λ b. if b then named_type (written_as (names_of l) (name_in t)) else resource (name_in t)) is
      ∙ (λ i. record { is_type = sym is i; out = t.out; number = t.number })

  -- at one leaf
  module _ (x : Path × EntityTree) (c : IsCalledAsItStands l.calls x) (ws : WrittenNames) (S : Thing → Type 0)
      (later : (n r : Name) → bound (at_leaf ws l.calls (leaf_of x) (named_by x.1)) n ≡ Some r
      → bound (names_of l) n ≡ Some r)
      (knew : (n r : Name) → bound ws n ≡ Some r → S (named_type r)) where
    -- what is written there
    abbrev And_now : Thing → Type 0
    And_now = And S (named_by (leaf_now x).1)

    stands_now : (s : Thing) → named_by x.1 ≡ Some s → (t : Thing) → now s ≡ t → And_now t
    stands_now s is t e =
        inr (ap (λ o. has (option_to_list o) t) (named_here same (written_as (names_of l)) x.1 s is)
        ∙ ap (λ y. has (y ∷ []) t) e ∙ has_itself t [])

    -- all that is called there is written as what was bound, or as what stands there
    type_here : (t s : Thing) → has (called_at l.calls x.0) t ≡ true → t.is_type ≡ true → named_by x.1 ≡ Some s
        → s.is_type ≡ true → (o : Option Name) → bound ws (name_in t) ≡ o → And_now (now t)
    type_here t s h is there kind (Some r) e =
        let first = leaf_bound l.calls (leaf_of x) (named_by x.1) ws (name_in t) r e in
        inl (subst S (ap named_type (sym (written_bound (names_of l) (name_in t) r (later (name_in t) r first)))
        ∙ sym (type_now t is)) (knew (name_in t) r e))
    type_here t s h is there kind None e =
        stands_now s there (now t) (type_now s kind
        ∙ ap named_type (written (name_in s) (standing (bound ws (name_in s)) refl) ∙ sym (written (name_in t) anew))
        ∙ sym (type_now t is))
      where
        r : Name
        r = written_as ws (name_in s)

        names : WrittenNames
        names = at_leaf ws l.calls (leaf_of x) (named_by x.1)

        written : (n : Name) → bound names n ≡ Some r → written_as (names_of l) n ≡ r
        written n k = written_bound (names_of l) n r (later n r k)

        here : (n : Name) → bound ws n ≡ None → bound (called_as r (called_at l.calls x.0)) n ≡ Some r
            → bound names n ≡ Some r
        here n free k =
            ap (λ o. bound (at_leaf ws l.calls (leaf_of x) o) n) there
            ∙ bound_then ws (called_as r (called_at l.calls x.0)) n r free k

        anew : bound names (name_in t) ≡ Some r
        anew = here (name_in t) e (called_bound r (called_at l.calls x.0) t is h)

        standing : (o : Option Name) → bound ws (name_in s) ≡ o → bound names (name_in s) ≡ Some r
        standing (Some q) k =
            leaf_bound l.calls (leaf_of x) (named_by x.1) ws (name_in s) r
            (k ∙ ap Some (sym (written_bound ws (name_in s) q k)))
        standing None k = here (name_in s) k (called_bound r (called_at l.calls x.0) s kind (c.standing s there))

    called_here : (t : Thing) → has (called_at l.calls x.0) t ≡ true → And_now (now t)
    called_here t h = one t.is_type refl
      where
        one : (b : Bool) → t.is_type ≡ b → And_now (now t)
        one true is = let k = c.called t h in type_here t k.thing h is k.is (k.kind ∙ is) (bound ws (name_in t)) refl
        one false is = let k = c.called t h in stands_now k.thing k.is (now t) (ap now (k.resource_is is))

    known_then : (n r : Name) → bound (at_leaf ws l.calls (leaf_of x) (named_by x.1)) n ≡ Some r
        → And_now (named_type r)
    known_then n r h = go (leaf_called l.calls (leaf_of x) (named_by x.1) ws n r h)
      where
        go : (bound ws n ≡ Some r) ⊎ IsBoundBy (called_at l.calls x.0) n → And_now (named_type r)
        go (inl k) = inl (knew n r k)
        go (inr b) = subst And_now (type_now b.thing b.kind ∙ ap (λ n. named_type (written_as (names_of l) n)) b.name
            ∙ ap named_type (written_bound (names_of l) n r (later n r h))) (called_here b.thing b.among)

  -- at each leaf in turn
  all_tied : (ls : Leaves) (ws : WrittenNames) (seen : List Thing) (S : Thing → Type 0)
      → AllByRecursion (IsCalledAsItStands l.calls) ls
      → ((n r : Name) → bound (along_leaves ws l.calls (map leaf_of ls)) n ≡ Some r → bound (names_of l) n ≡ Some r)
      → ((n r : Name) → bound ws n ≡ Some r → S (named_type r))
      → ((t : Thing) → has seen t ≡ true → S (now t))
      → ((t : Thing) → has (leaves_mentioned ls) t ≡ true → is_own left l t ≡ false → S (now t))
      → are_tied seen (map (left_place left l) (map leaf_of ls)) ≡ true → IsTied S (map leaf_now ls)
  all_tied [] ws seen S c finally knew was others tied = tt
  all_tied (x ∷ ls) ws seen S c finally knew was others tied = (
    λ t h. mention t (changed_mentions same (written_as (names_of l)) x.1 t h),
    all_tied ls names (seen ++ own) (And S (named_by (leaf_now x).1)) c.1 finally
        (known_then x c.0 ws S later knew) still
        (λ t h apart. inl (others t (ap (λ ts. has ts t) split ∙ has_then (mentioned x.1) (leaves_mentioned ls) t h)
        apart)) parts.1,
  )
    where
      own : List Thing
      own = filter (is_own left l) (called_at l.calls x.0)

      names : WrittenNames
      names = at_leaf ws l.calls (leaf_of x) (named_by x.1)

      split : leaves_mentioned (x ∷ ls) ≡ mentioned x.1 ++ leaves_mentioned ls
      split = outwards-append (in_entity 0 x.1) (in_leaves 0 ls)

      parts : (list_all (has (seen ++ own)) (filter (is_bound left l) (mentioned x.1)) ≡ true)
          × (are_tied (seen ++ own) (map (left_place left l) (map leaf_of ls)) ≡ true)
      parts = and_parts (list_all (has (seen ++ own)) (filter (is_bound left l) (mentioned x.1)))
          (are_tied (seen ++ own) (map (left_place left l) (map leaf_of ls))) tied

      later : (n r : Name) → bound names n ≡ Some r → bound (names_of l) n ≡ Some r
      later n r h = finally n r (still_bound l.calls (map leaf_of ls) names n r h)

      still : (t : Thing) → has (seen ++ own) t ≡ true → And S (named_by (leaf_now x).1) (now t)
      still t h = go (has_either seen own t h)
        where
          go : (has seen t ≡ true) ⊎ (has own t ≡ true) → And S (named_by (leaf_now x).1) (now t)
          go (inl k) = inl (was t k)
          go (inr k) = called_here x c.0 ws S later knew t (filtered (is_own left l) (called_at l.calls x.0) t k)

      mention : (t : Thing) → IsChanged same (written_as (names_of l)) (mentioned x.1) t
          → And S (named_by (leaf_now x).1) t
      mention t m = subst (And S (named_by (leaf_now x).1)) (sym m.is) (go (is_own left l m.before) refl)
        where
          go : (b : Bool) → is_own left l m.before ≡ b → And S (named_by (leaf_now x).1) (now m.before)
          go true e =
              still m.before (all_have (has (seen ++ own)) (filter (is_bound left l) (mentioned x.1)) m.before parts.0
              (filter_has (is_bound left l) (mentioned x.1) m.before
              (or_left (is_own left l m.before) (is_none (left m.before.number)) e) m.among))
          go false e = inl (others m.before (ap (λ ts. has ts m.before) split
              ∙ has_first (mentioned x.1) (leaves_mentioned ls) m.before m.among) e)

  -- what it does not itself bring or export is called as it was
  other_now : (t : Thing) → is_own left l t ≡ false → now t ≡ t
  other_now t apart = one t.is_type refl
    where
      no : (b : Bool) → b ≡ true → b ≡ false → ⊥
      no true h k = absurd cc
      no false h k = absurd cc

      -- where a type of its name is called, it is its own
      called : t.is_type ≡ true → IsBoundBy (map thing_of l.calls) (name_in t) → ⊥
      called is b =
          let same : b.thing ≡ t = (λ i. record {
            is_type = (b.kind ∙ sym is) i;
            out = (b.name i).out;
            number =
                (b.name i).number;
          }) in
          no (is_own left l t) (and_from (has (map thing_of l.calls) t) (t.is_type || is_of l.name (left t.number))
          (ap (has (map thing_of l.calls)) (sym same) ∙ b.among)
          (or_left t.is_type (is_of l.name (left t.number)) is)) apart

      free : t.is_type ≡ true → (o : Option Name) → bound (names_of l) (name_in t) ≡ o
          → bound (names_of l) (name_in t) ≡ None
      free is None h = h
      free is (Some r) h = absurd (go (all_called l.calls (leaves_at l.entity) [] (name_in t) r h))
        where
          go : (bound [] (name_in t) ≡ Some r) ⊎ IsBoundBy (map thing_of l.calls) (name_in t) → ⊥
          go (inl k) = none_bound (name_in t) r k
          go (inr b) = called is b

      one : (b : Bool) → t.is_type ≡ b → now t ≡ t
      one true is =
          type_now t is ∙ ap named_type (written_free (names_of l) (name_in t)
          (free is (bound (names_of l) (name_in t)) refl))
          ∙ (λ i. record { is_type = sym is i; out = t.out; number = t.number })
      one false is = resource_now t is

  pub settled_known : (f : Mention → Bool) → KeepsForm l.entity → entity_holds_tied l.entity ≡ true
      → are_tied [] (left_places left l) ≡ true → CallsWhatStands l → IsInOrder (settled l).entity
      → NeedsKnown left l f → is_known f (settled l).entity ≡ true
  settled_known f form tied places calls order needs =
      let rename = written_as (names_of l) in
      let S : Thing → Type 0 = λ t. f (key_of t) ≡ true in
      let stands = entity_stands (settled l).entity order (entity_keeps (change same rename) 0 l.entity form)
      (entity_tied same rename 0 l.entity tied) in
      let mentions = leaves_mention 0 [] l.entity in
      let all = all_tied (leaves_of [] l.entity) [] [] S (called_as_it_stands l calls) (λ n r h. h)
      (λ n r h. none_bound n r h) (λ t h. absurd cc)
      (λ t h apart. ap (λ x. f (key_of x)) (other_now t apart)
      ∙ needs t (ap (λ xs. has (outwards xs) t) (sym mentions) ∙ h) apart) places in
      let met = apart_met S (leaves_of [] (settled l).entity)
      (subst (IsTied S) (sym (leaves_changed same rename 0 [] l.entity)) all)
      (leaves_apart [] (settled l).entity stands) in
      ap is_some (entity_goes (settled l).entity f S [] (λ t h. h) met stands).is
