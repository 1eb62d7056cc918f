-- What is asked under one name is merged: left imports have names of their own, mention what is asked, and call what is
-- named there.
use Rattle.std.proofs.Common.{◌≡◌, ◌⊎◌, inl, inr, ◌||◌, ◌==◌, ◌+◌, ℕ, zero, suc, Bool, true, false, List, [], ◌∷◌, ◌++◌, map, slice_index_or, Option, Some, None, refl, sym, ap, subst, ◌∙◌, arith, append_assoc}
use Rattle.std.specs.Option.{option_or}
use Rattle.std.specs.Prelude.{bytes_eq, find, flat_map, is_none, option_map, option_to_list, slice_get, unwrap_or, if◌then◌else◌}
use Rattle.std.specs.List.{AllByRecursion, fold}
use Rattle.std.proofs.lemmas.List.{map-append}
use Rattle.std.proofs.lemmas.List.Folds.{find-append}
use Rattle.std.proofs.lemmas.Option.{same_Some, slice_get-get_or}
use Rattle.std.proofs.lemmas.Slice.Eq.{bytes_eq-Decides}
use Rattle.comp_entity.specs.Entity.{EntityTree, IsInstance, Entries, no_entry, entry, ShapeTree}
use Rattle.comp_entity.specs.Names.{in_entity, in_entries}
use Rattle.comp_entity.specs.Places.{Path, leaves_of}
use Rattle.compose_left.specs.declared.spots.Spot.{Spot}
use Rattle.compose_left.specs.declared.spots.Thing.{Thing}
use Rattle.compose_left.specs.Merging.{followed_by, is_absent, new_in, union}
use Rattle.compose_left.specs.Origins.{brought_at, names, placed, same_thing}
use Rattle.compose_left.specs.Spots.{named_by, spots, spots_from, spots_in, spots_of}
use Rattle.compose_left.specs.Wiring.{Wiring, no_shape, wire_into}
use Rattle.compose_needs.specs.Mentioned.{has, mentioned, outwards}
use Rattle.compose_order.specs.Needs.{LeftTree, place_named, thing_of}
use Rattle.compose_check.specs.Open.{Asked, asked_by, asked_by_all, asked_from, left_alone, left_open, merged_with, with_asked}
use Rattle.compose_known.proofs.MentionLaws.{has_either, has_first, has_then, outwards-append}
use Rattle.compose_known.proofs.OriginLaws.{Comes, numbered}
use Rattle.compose_known.proofs.PlacedLaws.{leaf_things, leaf_things_are, placed_things, things_of}

-- ---- unions

followed_mention : (d : ℕ) (es rest : Entries)
    → in_entries d (followed_by es rest) ≡ in_entries d es ++ in_entries d rest
followed_mention d no_entry rest = refl
followed_mention d (entry name e mark es) rest =
    ap (λ xs. in_entity d e ++ xs) (followed_mention d es rest)
    ∙ sym (append_assoc (in_entity d e) (in_entries d es) (in_entries d rest))

new_mention : (es fs : Entries) (t : Thing) → has (outwards (in_entries 0 (new_in es fs))) t ≡ true
    → has (outwards (in_entries 0 fs)) t ≡ true
new_mention es no_entry t h = h
new_mention es (entry name f mark fs) t h = one (is_absent name es) h (new_mention es fs t)
  where
    split : (rest : Entries) → outwards (in_entries 0 (entry name f mark rest))
        ≡ mentioned f ++ outwards (in_entries 0 rest)
    split rest = outwards-append (in_entity 0 f) (in_entries 0 rest)

    later : has (outwards (in_entries 0 fs)) t ≡ true → has (outwards (in_entries 0 (entry name f mark fs))) t ≡ true
    later k = ap (λ ts. has ts t) (split fs) ∙ has_then (mentioned f) (outwards (in_entries 0 fs)) t k

    go : (has (mentioned f) t ≡ true) ⊎ (has (outwards (in_entries 0 (new_in es fs))) t ≡ true)
        → (has (outwards (in_entries 0 (new_in es fs))) t ≡ true → has (outwards (in_entries 0 fs)) t ≡ true)
        → has (outwards (in_entries 0 (entry name f mark fs))) t ≡ true
    go (inl k) rest = ap (λ ts. has ts t) (split fs) ∙ has_first (mentioned f) (outwards (in_entries 0 fs)) t k
    go (inr k) rest = later (rest k)

    one : (b : Bool) → has (outwards (in_entries 0 (if b then entry name f mark (new_in es fs) else new_in es fs))) t
        ≡ true → (has (outwards (in_entries 0 (new_in es fs))) t ≡ true → has (outwards (in_entries 0 fs)) t ≡ true)
        → has (outwards (in_entries 0 (entry name f mark fs))) t ≡ true
    one true h rest =
        go (has_either (mentioned f) (outwards (in_entries 0 (new_in es fs))) t
        (sym (ap (λ ts. has ts t) (split (new_in es fs))) ∙ h)) rest
    one false h rest = later (rest h)

pub union_mentions : (a b : EntityTree) (t : Thing) → has (mentioned (union a b)) t ≡ true
    → (has (mentioned a) t ≡ true) ⊎ (has (mentioned b) t ≡ true)
union_mentions (IsInstance es) (IsInstance fs) t h =
    go (has_either (outwards (in_entries 0 es)) (outwards (in_entries 0 (new_in es fs))) t
    (sym (ap (λ ts. has ts t) (ap outwards (followed_mention 0 es (new_in es fs))
    ∙ outwards-append (in_entries 0 es) (in_entries 0 (new_in es fs)))) ∙ h))
  where
    go : (has (outwards (in_entries 0 es)) t ≡ true) ⊎ (has (outwards (in_entries 0 (new_in es fs))) t ≡ true)
        → (has (mentioned (IsInstance es)) t ≡ true) ⊎ (has (mentioned (IsInstance fs)) t ≡ true)
    go (inl k) = inl k
    go (inr k) = inr (new_mention es fs t k)
union_mentions a b t h = inl h

-- ---- spots

spot_things : (number : ℕ) (name : List ℕ) (ls : List (Path × EntityTree))
    → map thing_of (flat_map (λ (l : Path × EntityTree). spots_of number name l.0 l.1) ls) ≡ leaf_things ls
spot_things number name [] = refl
spot_things number name (l ∷ ls) =
    one (named_by l.1) ∙ ap (λ ts. option_to_list (named_by l.1) ++ ts) (spot_things number name ls)
  where
    one : (o : Option Thing) → map thing_of (map
        (λ (t : Thing). record { number = number; name = name; path = l.0; what = t }) (option_to_list o) ++ flat_map
        (λ (l : Path × EntityTree). spots_of number name l.0 l.1) ls)
        ≡ option_to_list o ++ map thing_of (flat_map (λ (l : Path × EntityTree). spots_of number name l.0 l.1) ls)
    one None = refl
    one (Some t) = refl

pub called_things : (number : ℕ) (name : List ℕ) (e : EntityTree)
    → map thing_of (spots_in number name [] e) ≡ things_of e
called_things number name e = spot_things number name (leaves_of [] e) ∙ leaf_things_are [] e

-- where a spot is found, the thing stands
record SpotOf (number : ℕ) (name : List ℕ) (ts : List Thing) (t : Thing) (s : Spot) : Type 0 where
  numbered_is : s.number ≡ number
  named : s.name ≡ name
  stands : has ts t ≡ true

found_spot : (number : ℕ) (name : List ℕ) (ls : List (Path × EntityTree)) (t : Thing) (s : Spot)
    → find (names t) (flat_map (λ (l : Path × EntityTree). spots_of number name l.0 l.1) ls) ≡ Some s
    → SpotOf number name (leaf_things ls) t s
found_spot number name [] t s h = absurd cc
found_spot number name (l ∷ ls) t s h = one (named_by l.1) h (found_spot number name ls t s)
  where
    rest_of : List Spot
    rest_of = flat_map (λ (l : Path × EntityTree). spots_of number name l.0 l.1) ls

    here : (x : Thing) (b : Bool) → same_thing x t ≡ b
        → (if b then Some (record { number = number; name = name; path = l.0; what = x }) else find (names t)
        (flat_map (λ (l : Path × EntityTree). spots_of number name l.0 l.1) ls)) ≡ Some s
        → (find (names t) (flat_map (λ (l : Path × EntityTree). spots_of number name l.0 l.1) ls) ≡ Some s
        → SpotOf number name (leaf_things ls) t s) → SpotOf number name (x ∷ leaf_things ls) t s
    here x true e h rest =
        let same = same_Some (record { number = number; name = name; path = l.0; what = x }) s h in
        record {
          numbered_is =
              ap (λ (s : Spot). s.number) (sym same);
          named =
              ap (λ (s : Spot). s.name) (sym same);
          stands = ap (λ b. b || has (leaf_things ls) t) e;
        }
    here x false e h rest =
        let r = rest h in record {
          numbered_is = r.numbered_is;
          named = r.named;
          stands = has_then (x ∷ [])
              (leaf_things ls) t r.stands;
        }

    one : (o : Option Thing) → find (names t)
        (map (λ (t : Thing). record { number = number; name = name; path = l.0; what = t })
        (option_to_list o) ++ flat_map (λ (l : Path × EntityTree). spots_of number name l.0 l.1) ls) ≡ Some s
        → (find (names t) (flat_map (λ (l : Path × EntityTree). spots_of number name l.0 l.1) ls) ≡ Some s
        → SpotOf number name (leaf_things ls) t s) → SpotOf number name (option_to_list o ++ leaf_things ls) t s
    one None h rest = rest h
    one (Some x) h rest = here x (same_thing x t) refl h rest

-- ---- what is asked

-- something asked under a name names a thing
abbrev pub Offers : List Asked → List ℕ → Thing → Type 0
Offers [] m t = ⊥
Offers (x ∷ xs) m t = ((x.0 ≡ m) × (has (things_of x.1) t ≡ true)) ⊎ Offers xs m t

offers_first : (xs ys : List Asked) (m : List ℕ) (t : Thing) → Offers xs m t → Offers (xs ++ ys) m t
offers_first [] ys m t o = absurd o
offers_first (x ∷ xs) ys m t (inl o) = inl o
offers_first (x ∷ xs) ys m t (inr o) = inr (offers_first xs ys m t o)

offers_then : (xs ys : List Asked) (m : List ℕ) (t : Thing) → Offers ys m t → Offers (xs ++ ys) m t
offers_then [] ys m t o = o
offers_then (x ∷ xs) ys m t o = inr (offers_then xs ys m t o)

module _ (w : Wiring) where
  offers_spot : (j number : ℕ) (es : List (List ℕ × EntityTree)) (t : Thing) (s : Spot)
      → find (names t) (spots_from number es) ≡ Some s → wire_into w.wires j s.number ≡ None
      → Offers (asked_from w j number es) s.name (numbered w j t)
  offers_spot j number [] t s h open_still = absurd cc
  offers_spot j number (e ∷ es) t s h unwired =
      one (find (names t) (spots_in number e.0 [] e.1)) refl
      (sym (find-append (names t) (spots_in number e.0 [] e.1) (spots_from (suc number) es)) ∙ h)
      (λ k. offers_spot j (suc number) es t s k unwired)
    where
      asked_here : SpotOf number e.0 (leaf_things (leaves_of [] e.1)) t s
          → Offers (asked_from w j number (e ∷ es)) s.name (numbered w j t)
      asked_here r =
          let none : wire_into w.wires j number ≡ None = ap (wire_into w.wires j) (sym r.numbered_is) ∙ unwired in
          let stands : has (things_of e.1) t ≡ true = ap (λ ts. has ts t) (sym (leaf_things_are [] e.1)) ∙ r.stands in
          offers_first (asked_by w j number e) (asked_from w j (suc number) es) s.name (numbered w j t)
          (subst (λ o. Offers (if is_none o then (e.0, placed w j e.1) ∷ [] else []) s.name (numbered w j t)) (sym none)
          (inl (sym r.named, placed_things w j e.1 t stands)))

      one : (o : Option Spot) → find (names t) (spots_in number e.0 [] e.1) ≡ o
          → option_or o (find (names t) (spots_from (suc number) es)) ≡ Some s
          → (find (names t) (spots_from (suc number) es) ≡ Some s
          → Offers (asked_from w j (suc number) es) s.name (numbered w j t))
          → Offers (asked_from w j number (e ∷ es)) s.name (numbered w j t)
      one None e' h rest =
          offers_then (asked_by w j number e) (asked_from w j (suc number) es) s.name (numbered w j t) (rest h)
      one (Some x) e' h rest = asked_here (found_spot number e.0 (leaves_of [] e.1) t s (e' ∙ h))

  offers_at : (ss : List ShapeTree) (i k j : ℕ) (s : ShapeTree) (m : List ℕ) (t : Thing) → j ≡ i + k
      → slice_get ss k ≡ Some s → Offers (asked_from w j 0 s.imports) m t → Offers (asked_by_all w i ss) m t
  offers_at [] i k j s m t at h o = absurd cc
  offers_at (x ∷ ss) i zero j s m t at h o =
      let same : j ≡ i = omega (arith, at) in
      offers_first (asked_from w i 0 x.imports) (asked_by_all w (suc i) ss) m t
      (subst (λ (x : ShapeTree). Offers (asked_from w i 0 x.imports) m t) (sym (same_Some x s h))
      (subst (λ j. Offers (asked_from w j 0 s.imports) m t) same o))
  offers_at (x ∷ ss) i (suc k) j s m t at h o =
      offers_then (asked_from w i 0 x.imports) (asked_by_all w (suc i) ss) m t
      (offers_at ss (suc i) k j s m t (omega (arith, at)) h o)

  brought_found : (s : ShapeTree) (t : Thing) (x : Spot) → brought_at s t ≡ Some x
      → find (names t) (spots s.imports) ≡ Some x
  brought_found s t x h = one (t.out == 1) h
    where
      one : (b : Bool) → (if b then find (names t) (spots s.imports) else None) ≡ Some x
          → find (names t) (spots s.imports) ≡ Some x
      one true h = h
      one false h = absurd cc

  pub offered : (t : Thing) (m : List ℕ) → Comes w t m → Offers (left_open w) m t
  offered t m c =
      let s = slice_index_or w.shapes c.instance no_shape in
      let there : slice_get w.shapes c.instance ≡ Some s = slice_get-get_or w.shapes c.instance no_shape c.there in
      let found = brought_found s c.thing c.spot
      (sym (ap (λ o. brought_at (unwrap_or o no_shape) c.thing) there) ∙ c.brought) in
      let offers = offers_spot c.instance 0 s.imports c.thing c.spot found c.unwired in
      offers_at w.shapes 0 c.instance c.instance s m t (omega arith) there
      (subst (λ m. Offers (asked_from w c.instance 0 s.imports) m t) c.named
      (subst (λ t. Offers (asked_from w c.instance 0 s.imports) c.spot.name t) c.same offers))

-- ---- merging, one after the other

module _ (X : Asked → Type 0) (I : List LeftTree → Type 0)
    (step : (ls : List LeftTree) (x : Asked) → X x → I ls → I (with_asked ls x)) where
  pub merged_keeps : (xs : List Asked) (ls : List LeftTree) → AllByRecursion X xs → I ls → I (fold with_asked ls xs)
  merged_keeps [] ls a i = i
  merged_keeps (x ∷ xs) ls a i = merged_keeps xs (with_asked ls x) a.1 (step ls x a.0 i)

-- what the first import of a name calls
abbrev pub calls : List LeftTree → List ℕ → Thing → Bool
calls [] m t = false
calls (l ∷ ls) m t = if bytes_eq m l.name then has (map thing_of l.calls) t else calls ls m t

abbrev pub Calls : List LeftTree → List ℕ → Thing → Type 0
Calls ls m t = calls ls m t ≡ true

pub merged_calls : (l : LeftTree) (e : EntityTree)
    → map thing_of (merged_with l e).calls ≡ map thing_of l.calls ++ things_of e
merged_calls l e =
    map-append thing_of l.calls (spots_in 0 l.name [] e)
    ∙ ap (λ ts. map thing_of l.calls ++ ts) (called_things 0 l.name e)

same_name : (m n : List ℕ) → m ≡ n → bytes_eq m n ≡ true
same_name m n e = (bytes_eq-Decides m n).1 e

-- imports that are merged call what they called
calls_still : (ls : List LeftTree) (x : Asked) (m : List ℕ) (t : Thing) → Calls ls m t → Calls (with_asked ls x) m t
calls_still [] x m t c = absurd cc
calls_still (l ∷ ls) x m t c = one (bytes_eq x.0 l.name) (bytes_eq m l.name) refl c (calls_still ls x m t)
  where
    one : (a b : Bool) → bytes_eq m l.name ≡ b → (if b then has (map thing_of l.calls) t else calls ls m t) ≡ true
        → (Calls ls m t → Calls (with_asked ls x) m t)
        → Calls (if a then merged_with l x.1 ∷ ls else l ∷ with_asked ls x) m t
    one true true e c rest =
        subst (λ (b : Bool). (if b then has (map thing_of (merged_with l x.1).calls) t else calls ls m t) ≡ true)
        (sym e) (ap (λ ts. has ts t) (merged_calls l x.1) ∙ has_first (map thing_of l.calls) (things_of x.1) t c)
    one true false e c rest =
        subst (λ (b : Bool). (if b then has (map thing_of (merged_with l x.1).calls) t else calls ls m t) ≡ true)
        (sym e) c
    one false true e c rest =
        subst (λ (b : Bool). (if b then has (map thing_of l.calls) t else calls (with_asked ls x) m t) ≡ true) (sym e) c
    one false false e c rest =
        subst (λ (b : Bool). (if b then has (map thing_of l.calls) t else calls (with_asked ls x) m t) ≡ true) (sym e)
        (rest c)

-- and what the need that is merged names
calls_new : (ls : List LeftTree) (x : Asked) (t : Thing) → has (things_of x.1) t ≡ true → Calls (with_asked ls x) x.0 t
calls_new [] x t h =
    subst (λ (b : Bool). (if b then has (map thing_of (left_alone x).calls) t else false) ≡ true)
    (sym (same_name x.0 x.0 refl)) (ap (λ ts. has ts t) (called_things 0 x.0 x.1) ∙ h)
calls_new (l ∷ ls) x t h = one (bytes_eq x.0 l.name) refl (calls_new ls x t h)
  where
    one : (a : Bool) → bytes_eq x.0 l.name ≡ a → Calls (with_asked ls x) x.0 t
        → Calls (if a then merged_with l x.1 ∷ ls else l ∷ with_asked ls x) x.0 t
    one true e rest =
        subst (λ (b : Bool). (if b then has (map thing_of (merged_with l x.1).calls) t else calls ls x.0 t) ≡ true)
        (sym e) (ap (λ ts. has ts t) (merged_calls l x.1) ∙ has_then (map thing_of l.calls) (things_of x.1) t h)
    one false e rest =
        subst (λ (b : Bool). (if b then has (map thing_of l.calls) t else calls (with_asked ls x) x.0 t) ≡ true)
        (sym e) rest

still_calls : (xs : List Asked) (ls : List LeftTree) (m : List ℕ) (t : Thing) → Calls ls m t
    → Calls (fold with_asked ls xs) m t
still_calls [] ls m t c = c
still_calls (x ∷ xs) ls m t c = still_calls xs (with_asked ls x) m t (calls_still ls x m t c)

pub offers_calls : (xs : List Asked) (ls : List LeftTree) (m : List ℕ) (t : Thing) → Offers xs m t
    → Calls (fold with_asked ls xs) m t
offers_calls [] ls m t o = absurd o
offers_calls (x ∷ xs) ls m t (inl o) =
    still_calls xs (with_asked ls x) m t (subst (λ m. Calls (with_asked ls x) m t) o.0 (calls_new ls x t o.1))
offers_calls (x ∷ xs) ls m t (inr o) = offers_calls xs (with_asked ls x) m t o

-- the first import of the name, by its number
pub record Called (ls : List LeftTree) (m : List ℕ) (t : Thing) : Type 0 where
  pub number : ℕ
  pub import : LeftTree
  pub place : place_named ls m ≡ Some number
  pub there : slice_get ls number ≡ Some import
  pub called : has (map thing_of import.calls) t ≡ true

pub calls_called : (ls : List LeftTree) (m : List ℕ) (t : Thing) → Calls ls m t → Called ls m t
calls_called [] m t c = absurd cc
calls_called (l ∷ ls) m t c = one (bytes_eq m l.name) refl c (calls_called ls m t)
  where
    one : (b : Bool) → bytes_eq m l.name ≡ b → (if b then has (map thing_of l.calls) t else calls ls m t) ≡ true
        → (Calls ls m t → Called ls m t) → Called (l ∷ ls) m t
    one true e c rest =
        record {
          number =
              0;
          import = l;
          place = ap (λ b. if b then Some 0 else option_map suc (place_named ls m)) e;
          there = refl;
          called = c;
        }
    one false e c rest =
        let r = rest c in
        record {
          number =
              suc r.number;
          import =
              r.import;
          place =
              ap (λ b. if b then Some 0 else option_map suc (place_named ls m)) e ∙ ap (option_map suc) r.place;
          there =
              r.there;
          called = r.called;
        }

-- ---- names of their own

abbrev IsOther : List ℕ → LeftTree → Type 0
IsOther name l = bytes_eq name l.name ≡ false

abbrev pub HaveOwnNames : List LeftTree → Type 0
HaveOwnNames [] = Unit {0}
HaveOwnNames (l ∷ ls) = AllByRecursion (IsOther l.name) ls × HaveOwnNames ls

others_still : (name : List ℕ) (ls : List LeftTree) (x : Asked) → bytes_eq name x.0 ≡ false
    → AllByRecursion (IsOther name) ls → AllByRecursion (IsOther name) (with_asked ls x)
others_still name [] x apart a = (apart, tt)
others_still name (l ∷ ls) x apart a = one (bytes_eq x.0 l.name) (others_still name ls x apart a.1)
  where
    one : (b : Bool) → AllByRecursion (IsOther name) (with_asked ls x)
        → AllByRecursion (IsOther name) (if b then merged_with l x.1 ∷ ls else l ∷ with_asked ls x)
    one true rest = a
    one false rest = (a.0, rest)

turned : (m n : List ℕ) → bytes_eq m n ≡ false → bytes_eq n m ≡ false
turned m n h = one (bytes_eq n m) refl
  where
    one : (b : Bool) → bytes_eq n m ≡ b → b ≡ false
    one true e = sym (same_name m n (sym ((bytes_eq-Decides n m).0 e))) ∙ h
    one false e = refl

pub own_names_still : (ls : List LeftTree) (x : Asked) → HaveOwnNames ls → HaveOwnNames (with_asked ls x)
own_names_still [] x h = (tt, tt)
own_names_still (l ∷ ls) x h = one (bytes_eq x.0 l.name) refl (own_names_still ls x h.1)
  where
    one : (b : Bool) → bytes_eq x.0 l.name ≡ b → HaveOwnNames (with_asked ls x)
        → HaveOwnNames (if b then merged_with l x.1 ∷ ls else l ∷ with_asked ls x)
    one true e rest = h
    one false e rest = (others_still l.name ls x (turned x.0 l.name e) h.0, rest)

pub all_at : {X : Type 0} (P : X → Type 0) (xs : List X) (n : ℕ) (x : X) → AllByRecursion P xs
    → slice_get xs n ≡ Some x → P x
all_at P [] n x a h = absurd cc
all_at P (y ∷ xs) zero x a h = subst P (same_Some y x h) a.0
all_at P (y ∷ xs) (suc n) x a h = all_at P xs n x a.1 h

-- what the first import of its name calls, an import calls itself
pub calls_itself : (ls : List LeftTree) (n : ℕ) (l : LeftTree) (t : Thing) → HaveOwnNames ls → slice_get ls n ≡ Some l
    → Calls ls l.name t → has (map thing_of l.calls) t ≡ true
calls_itself [] n l t own h c = absurd cc
calls_itself (k ∷ ls) zero l t own h c =
    let same = same_Some k l h in
    subst (λ (l : LeftTree). has (map thing_of l.calls) t ≡ true) same
    (subst (λ (b : Bool). (if b then has (map thing_of k.calls) t else calls ls l.name t) ≡ true)
    (same_name l.name k.name (ap (λ (l : LeftTree). l.name) (sym same))) c)
calls_itself (k ∷ ls) (suc n) l t own h c =
    let other = turned k.name l.name (all_at (IsOther k.name) ls n l own.0 h) in
    calls_itself ls n l t own.1 h (subst (λ (b : Bool). (if b then has (map thing_of k.calls) t else calls ls l.name t)
    ≡ true) other c)

-- ---- what imports mention is asked

-- of each of some needs, a thing that it mentions is one of these
module _ (Q : Thing → Type 0) where
  abbrev pub Mentions : EntityTree → Type 0
  Mentions e = (t : Thing) → has (mentioned e) t ≡ true → Q t

  abbrev pub AllMention : List LeftTree → Type 0
  AllMention ls = AllByRecursion (λ (l : LeftTree). Mentions l.entity) ls

  mention_either : (a b : EntityTree) → Mentions a → Mentions b → Mentions (union a b)
  mention_either a b f g t h = go (union_mentions a b t h)
    where
      go : (has (mentioned a) t ≡ true) ⊎ (has (mentioned b) t ≡ true) → Q t
      go (inl k) = f t k
      go (inr k) = g t k

  pub mention_still : (ls : List LeftTree) (x : Asked) → Mentions x.1 → AllMention ls → AllMention (with_asked ls x)
  mention_still [] x q a = (q, tt)
  mention_still (l ∷ ls) x q a = one (bytes_eq x.0 l.name) (mention_still ls x q a.1)
    where
      one : (b : Bool) → AllMention (with_asked ls x)
          → AllMention (if b then merged_with l x.1 ∷ ls else l ∷ with_asked ls x)
      one true rest = (mention_either l.entity x.1 a.0 q, a.1)
      one false rest = (a.0, rest)
