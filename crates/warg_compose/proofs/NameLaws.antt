-- Things with names, of which the first of each name are taken.
use Rattle.std.proofs.Common.{◌≡◌, ◌<◌, ◌+◌, ◌∙◌, ◌⊎◌, inl, inr, sym, ap, subst, refl, arith, ℕ, zero, suc, Bool, true, false, true≢false, cond, ◌||◌, not, List, [], ◌∷◌, ◌++◌, length, map, Some}
use Rattle.std.specs.Prelude.{bytes_eq, fold, slice_get}
use Rattle.std.specs.List.{AllByRecursion, list_any, position_or_len}
use Rattle.std.proofs.lemmas.Slice.Eq.{bytes_eq-Decides}

abbrev pub has : List (List ℕ) → List ℕ → Bool
has names name = list_any (bytes_eq name) names

pub same_bytes : (a b : List ℕ) → bytes_eq a b ≡ true → a ≡ b
same_bytes a b h = (bytes_eq-Decides a b).0 h

pub itself : (a : List ℕ) → bytes_eq a a ≡ true
itself a = (bytes_eq-Decides a a).1 refl

pub differs_back : (a b : List ℕ) → bytes_eq a b ≡ false → bytes_eq b a ≡ false
differs_back a b h = by (bytes_eq b a) refl
  where
    by : (x : Bool) → bytes_eq b a ≡ x → x ≡ false
    by true e = absurd (true≢false (sym (itself a) ∙ ap (λ (c : List ℕ). bytes_eq a c) (sym (same_bytes b a e)) ∙ h))
    by false e = refl

-- ---- one name more

pub has_more : (ns ms : List (List ℕ)) (n : List ℕ) → has ns n ≡ true → has (ns ++ ms) n ≡ true
has_more [] ms n h = absurd (true≢false (sym h))
has_more (x ∷ ns) ms n h = by (bytes_eq n x) h (has_more ns ms n)
  where
    by : (b : Bool) → (b || has ns n) ≡ true → (has ns n ≡ true → has (ns ++ ms) n ≡ true) → (b || has (ns ++ ms) n) ≡ true
    by true h later = refl
    by false h later = later h

pub has_last : (ns : List (List ℕ)) (n : List ℕ) → has (ns ++ n ∷ []) n ≡ true
has_last [] n = ap (λ b. b || false) (itself n)
has_last (x ∷ ns) n = by (bytes_eq n x) (has_last ns n)
  where
    by : (b : Bool) → has (ns ++ n ∷ []) n ≡ true → (b || has (ns ++ n ∷ []) n) ≡ true
    by true h = refl
    by false h = h

pub place_more : (ns ms : List (List ℕ)) (n : List ℕ) → has ns n ≡ true → position_or_len (bytes_eq n) (ns ++ ms) ≡ position_or_len (bytes_eq n) ns
place_more [] ms n h = absurd (true≢false (sym h))
place_more (x ∷ ns) ms n h = by (bytes_eq n x) h (place_more ns ms n)
  where
    by : (b : Bool) → (b || has ns n) ≡ true → (has ns n ≡ true → position_or_len (bytes_eq n) (ns ++ ms) ≡ position_or_len (bytes_eq n) ns)
        → cond (not b) (1 + position_or_len (bytes_eq n) (ns ++ ms)) 0 ≡ cond (not b) (1 + position_or_len (bytes_eq n) ns) 0
    by true h later = refl
    by false h later = ap (λ k. 1 + k) (later h)

pub place_within : (ns : List (List ℕ)) (n : List ℕ) → has ns n ≡ true → position_or_len (bytes_eq n) ns < length ns
place_within [] n h = absurd (true≢false (sym h))
place_within (x ∷ ns) n h = by (bytes_eq n x) h (place_within ns n)
  where
    by : (b : Bool) → (b || has ns n) ≡ true → (has ns n ≡ true → position_or_len (bytes_eq n) ns < length ns) → cond (not b) (1 + position_or_len (bytes_eq n) ns) 0 < suc (length ns)
    by true h later = omega arith
    by false h later = let at = later h in omega (arith, at)

-- ---- names that differ

abbrev pub AreOwn : List (List ℕ) → Type 0
AreOwn [] = Unit {0}
AreOwn (n ∷ ns) = (has ns n ≡ false) × AreOwn ns

pub or_false : (a b : Bool) → (a || b) ≡ false → (a ≡ false) × (b ≡ false)
or_false true b e = absurd (true≢false e)
or_false false b e = (refl, e)

has_neither : (ns : List (List ℕ)) (n m : List ℕ) → has ns n ≡ false → bytes_eq n m ≡ false → has (ns ++ m ∷ []) n ≡ false
has_neither [] n m h k = ap (λ b. b || false) k
has_neither (x ∷ ns) n m h k =
    let parts = or_false (bytes_eq n x) (has ns n) h in
    ap (λ b. b || has (ns ++ m ∷ []) n) parts.0 ∙ has_neither ns n m parts.1 k

pub own_more : (ns : List (List ℕ)) (n : List ℕ) → AreOwn ns → has ns n ≡ false → AreOwn (ns ++ n ∷ [])
own_more [] n own h = (refl, tt)
own_more (x ∷ ns) n own h =
    let parts = or_false (bytes_eq n x) (has ns n) h in
    (has_neither ns x n own.0 (differs_back n x parts.0), own_more ns n own.1 parts.1)

-- ---- the first things of their names

module _ {X : Type 0} (name : X → List ℕ) where
  abbrev pub names : List X → List (List ℕ)
  names xs = map name xs

  abbrev pub with_one : List X → X → List X
  with_one xs x = cond (list_any (λ n. bytes_eq (name x) n) (names xs)) xs (xs ++ x ∷ [])

  abbrev pub firsts : List X → List X → List X
  firsts xs ys = fold with_one xs ys

  names_more : (xs : List X) (x : X) → names (xs ++ x ∷ []) ≡ names xs ++ name x ∷ []
  names_more [] x = refl
  names_more (y ∷ xs) x = ap (λ ns. name y ∷ ns) (names_more xs x)

  pub names_with : (xs : List X) (x : X) → names (with_one xs x) ≡ cond (has (names xs) (name x)) (names xs) (names xs ++ name x ∷ [])
  names_with xs x = by (has (names xs) (name x))
    where
      by : (b : Bool) → names (cond b xs (xs ++ x ∷ [])) ≡ cond b (names xs) (names xs ++ name x ∷ [])
      by true = refl
      by false = names_more xs x

  pub kept_with : (xs : List X) (x : X) (n : List ℕ) → has (names xs) n ≡ true → has (names (with_one xs x)) n ≡ true
  kept_with xs x n h = by (has (names xs) (name x))
    where
      by : (b : Bool) → has (names (cond b xs (xs ++ x ∷ []))) n ≡ true
      by true = h
      by false = subst (λ ns. has ns n ≡ true) (sym (names_more xs x)) (has_more (names xs) (name x ∷ []) n h)

  pub place_with : (xs : List X) (x : X) (n : List ℕ) → has (names xs) n ≡ true → position_or_len (bytes_eq n) (names (with_one xs x)) ≡ position_or_len (bytes_eq n) (names xs)
  place_with xs x n h = by (has (names xs) (name x))
    where
      by : (b : Bool) → position_or_len (bytes_eq n) (names (cond b xs (xs ++ x ∷ []))) ≡ position_or_len (bytes_eq n) (names xs)
      by true = refl
      by false = ap (position_or_len (bytes_eq n)) (names_more xs x) ∙ place_more (names xs) (name x ∷ []) n h

  pub new_with : (xs : List X) (x : X) → has (names (with_one xs x)) (name x) ≡ true
  new_with xs x = by (has (names xs) (name x)) refl
    where
      by : (b : Bool) → has (names xs) (name x) ≡ b → has (names (cond b xs (xs ++ x ∷ []))) (name x) ≡ true
      by true h = h
      by false h = subst (λ ns. has ns (name x) ≡ true) (sym (names_more xs x)) (has_last (names xs) (name x))

  pub own_with : (xs : List X) (x : X) → AreOwn (names xs) → AreOwn (names (with_one xs x))
  own_with xs x own = by (has (names xs) (name x)) refl
    where
      by : (b : Bool) → has (names xs) (name x) ≡ b → AreOwn (names (cond b xs (xs ++ x ∷ [])))
      by true h = own
      by false h = subst AreOwn (sym (names_more xs x)) (own_more (names xs) (name x) own h)

  pub own_firsts : (xs ys : List X) → AreOwn (names xs) → AreOwn (names (firsts xs ys))
  own_firsts xs [] own = own
  own_firsts xs (y ∷ ys) own = own_firsts (with_one xs y) ys (own_with xs y own)

  pub kept_firsts : (xs ys : List X) (n : List ℕ) → has (names xs) n ≡ true → has (names (firsts xs ys)) n ≡ true
  kept_firsts xs [] n h = h
  kept_firsts xs (y ∷ ys) n h = kept_firsts (with_one xs y) ys n (kept_with xs y n h)

  -- each has its name among them
  pub each_named : (xs ys : List X) → AllByRecursion (λ y. has (names (firsts xs ys)) (name y) ≡ true) ys
  each_named xs [] = tt
  each_named xs (y ∷ ys) = (kept_firsts (with_one xs y) ys (name y) (new_with xs y), each_named (with_one xs y) ys)

  -- what is among them was there, or is one of the others
  pub is_of : (xs ys : List X) (i : ℕ) (x : X) → slice_get (firsts xs ys) i ≡ Some x → ((j : ℕ) × (slice_get xs j ≡ Some x)) ⊎ ((j : ℕ) × (slice_get ys j ≡ Some x))
  is_of xs [] i x e = inl (i, e)
  is_of xs (y ∷ ys) i x e = by (is_of (with_one xs y) ys i x e)
    where
      last : (zs : List X) (j : ℕ) → slice_get (zs ++ y ∷ []) j ≡ Some x → ((k : ℕ) × (slice_get zs k ≡ Some x)) ⊎ (y ≡ x)
      last [] zero e = inr cc
      last [] (suc j) e = absurd cc
      last (z ∷ zs) zero e = inl (0, e)
      last (z ∷ zs) (suc j) e = elim (last zs j e) [ inl at ↦ inl (suc at.0, at.1) | inr same ↦ inr same ]

      here : (b : Bool) (j : ℕ) → slice_get (cond b xs (xs ++ y ∷ [])) j ≡ Some x → ((k : ℕ) × (slice_get xs k ≡ Some x)) ⊎ ((k : ℕ) × (slice_get (y ∷ ys) k ≡ Some x))
      here true j e = inl (j, e)
      here false j e = elim (last xs j e) [ inl at ↦ inl at | inr same ↦ inr (0, ap Some same) ]

      by : ((j : ℕ) × (slice_get (with_one xs y) j ≡ Some x)) ⊎ ((j : ℕ) × (slice_get ys j ≡ Some x)) → ((j : ℕ) × (slice_get xs j ≡ Some x)) ⊎ ((j : ℕ) × (slice_get (y ∷ ys) j ≡ Some x))
      by (inl at) = here (list_any (λ n. bytes_eq (name y) n) (names xs)) at.0 at.1
      by (inr at) = inr (suc at.0, at.1)

-- the same at each
pub map_same : {X Y : Type 0} (f g : X → Y) (xs : List X) → AllByRecursion (λ x. f x ≡ g x) xs → map f xs ≡ map g xs
map_same f g [] all = refl
map_same f g (x ∷ xs) all = λ i. all.0 i ∷ map_same f g xs all.1 i
