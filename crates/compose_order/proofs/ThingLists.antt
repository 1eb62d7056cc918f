-- Things that lists hold.
use Rattle.std.proofs.Common.{◌≡◌, zero, suc, Bool, true, false, cond, List, [], ◌∷◌, ◌++◌, map, Some, refl, sym, ap, ◌∙◌, arith}
use Rattle.std.specs.Prelude.{◌||◌, Contains, filter, find, flat_map}
use Rattle.std.specs.List.{AllByRecursion, list_all}
use Rattle.std.proofs.lemmas.Bool.{and_parts}
use Rattle.std.proofs.lemmas.List.Folds.{list_any-append}
use Rattle.std.proofs.lemmas.Option.{same_Some}
use Rattle.compose_left.specs.declared.spots.Thing.{Thing}
use Rattle.compose_left.specs.Origins.{same_thing}
use Rattle.compose_needs.specs.Mentioned.{has}
use Rattle.compose_needs.specs.ThingLaws.{both, same_itself, same_things}

pub or_parts : {A : Type 0} (a b : Bool) → (a || b) ≡ true → (a ≡ true → A) → (b ≡ true → A) → A
or_parts true b e f g = f refl
or_parts false b e f g = g e

pub or_left : (a b : Bool) → a ≡ true → (a || b) ≡ true
or_left true b e = refl
or_left false b e = absurd cc

pub or_right : (a b : Bool) → b ≡ true → (a || b) ≡ true
or_right true b e = refl
or_right false b e = e

-- ---- elements

pub contains_first : {X : Type 0} (x : X) (xs : List X) → Contains (x ∷ xs) x
contains_first x xs = (0, omega arith, refl)

pub contains_later : {X : Type 0} (y x : X) (xs : List X) → Contains xs x → Contains (y ∷ xs) x
contains_later y x xs c = (suc c.0, omega (arith, c.1), c.2)

pub contains_cases : {X A : Type 0} (y x : X) (xs : List X) → Contains (y ∷ xs) x → (y ≡ x → A) → (Contains xs x → A) → A
contains_cases y x xs (zero, lt, is) f g = f is
contains_cases y x xs (suc k, lt, is) f g = g (k, omega (arith, lt), is)

pub record IsSplit {X : Type 0} (xs : List X) (x : X) : Type 0 where
  pub before : List X
  pub after : List X
  pub all : xs ≡ before ++ x ∷ after

pub split_at : {X : Type 0} (xs : List X) (x : X) → Contains xs x → IsSplit xs x
split_at [] x c = absurd (omega (arith, c.1))
split_at (y ∷ xs) x c = contains_cases y x xs c (λ e. record { before = []; after = xs; all = λ i. e i ∷ xs }) (λ d. let rest = split_at xs x d in record { before = y ∷ rest.before; after = rest.after; all = ap (λ ys. y ∷ ys) rest.all })

-- ---- what is given for each of some

pub flat_has : {X : Type 0} (f : X → List Thing) (xs : List X) (x : X) (t : Thing) → Contains xs x → has (f x) t ≡ true → has (flat_map f xs) t ≡ true
flat_has f [] x t c h = absurd (omega (arith, c.1))
flat_has f (y ∷ xs) x t c h =
    list_any-append (λ m. same_thing m t) (f y) (flat_map f xs)
    ∙ contains_cases y x xs c (λ e. or_left (has (f y) t) (has (flat_map f xs) t) (ap (λ z. has (f z) t) e ∙ h)) (λ d. or_right (has (f y) t) (has (flat_map f xs) t) (flat_has f xs x t d h))

pub record IsGivenBy {X : Type 0} (f : X → List Thing) (xs : List X) (t : Thing) : Type 0 where
  pub giver : X
  pub among : Contains xs giver
  pub given : has (f giver) t ≡ true

pub has_flat : {X : Type 0} (f : X → List Thing) (xs : List X) (t : Thing) → has (flat_map f xs) t ≡ true → IsGivenBy f xs t
has_flat f [] t h = absurd cc
has_flat f (x ∷ xs) t h =
    or_parts (has (f x) t) (has (flat_map f xs) t) (sym (list_any-append (λ m. same_thing m t) (f x) (flat_map f xs)) ∙ h)
    (λ e. record { giver = x; among = contains_first x xs; given = e })
    (λ e. let rest = has_flat f xs t e in record { giver = rest.giver; among = contains_later x rest.giver xs rest.among; given = rest.given })

-- ---- those that pass

pub filter_has : (p : Thing → Bool) (ts : List Thing) (t : Thing) → p t ≡ true → has ts t ≡ true → has (filter p ts) t ≡ true
filter_has p [] t passes h = absurd cc
filter_has p (x ∷ ts) t passes h = one (p x) refl (filter_has p ts t passes)
  where
    one : (b : Bool) → p x ≡ b → (has ts t ≡ true → has (filter p ts) t ≡ true) → has (cond b (x ∷ filter p ts) (filter p ts)) t ≡ true
    one true e rest = or_parts (same_thing x t) (has ts t) h (λ s. or_left (same_thing x t) (has (filter p ts) t) s) (λ s. or_right (same_thing x t) (has (filter p ts) t) (rest s))
    one false e rest = or_parts (same_thing x t) (has ts t) h (λ s. absurd (let bad : true ≡ false = sym passes ∙ ap p (sym (same_things x t s)) ∙ e in cc)) rest

pub has_filter : (p : Thing → Bool) (ts : List Thing) (t : Thing) → has (filter p ts) t ≡ true → (p t ≡ true) × (has ts t ≡ true)
has_filter p [] t h = absurd cc
has_filter p (x ∷ ts) t h = one (p x) refl h (has_filter p ts t)
  where
    one : (b : Bool) → p x ≡ b → has (cond b (x ∷ filter p ts) (filter p ts)) t ≡ true → (has (filter p ts) t ≡ true → (p t ≡ true) × (has ts t ≡ true)) → (p t ≡ true) × (has (x ∷ ts) t ≡ true)
    one true e h rest = or_parts (same_thing x t) (has (filter p ts) t) h (λ s. (ap p (sym (same_things x t s)) ∙ e, or_left (same_thing x t) (has ts t) s)) (λ s. let r = rest s in (r.0, or_right (same_thing x t) (has ts t) r.1))
    one false e h rest = let r = rest h in (r.0, or_right (same_thing x t) (has ts t) r.1)

-- ---- all of them

pub all_has : (p : Thing → Bool) (ts : List Thing) (t : Thing) → list_all p ts ≡ true → has ts t ≡ true → p t ≡ true
all_has p [] t all h = absurd cc
all_has p (x ∷ ts) t all h =
    let parts = and_parts (p x) (list_all p ts) all in
    or_parts (same_thing x t) (has ts t) h (λ e. ap p (sym (same_things x t e)) ∙ parts.0) (λ e. all_has p ts t parts.1 e)

pub has_all : (p : Thing → Bool) (ts : List Thing) → ((t : Thing) → has ts t ≡ true → p t ≡ true) → list_all p ts ≡ true
has_all p [] h = refl
has_all p (t ∷ ts) h = both (p t) (list_all p ts) (h t (or_left (same_thing t t) (has ts t) (same_itself t))) (has_all p ts (λ u e. h u (or_right (same_thing t u) (has ts u) e)))

-- ---- the first that passes

pub record IsFirst {X : Type 0} (p : X → Bool) (xs : List X) (x : X) : Type 0 where
  pub before : List X
  pub after : List X
  pub all : xs ≡ before ++ x ∷ after
  pub passes : p x ≡ true
  pub none : AllByRecursion (λ y. p y ≡ false) before

pub find_first : {X : Type 0} (p : X → Bool) (xs : List X) (x : X) → find p xs ≡ Some x → IsFirst p xs x
find_first p [] x e = absurd cc
find_first p (y ∷ xs) x e = one (p y) refl e (find_first p xs x)
  where
    one : (b : Bool) → p y ≡ b → cond b (Some y) (find p xs) ≡ Some x → (find p xs ≡ Some x → IsFirst p xs x) → IsFirst p (y ∷ xs) x
    one true b e rest = let same = same_Some y x e in record { before = []; after = xs; all = λ i. same i ∷ xs; passes = ap p (sym same) ∙ b; none = tt }
    one false b e rest = let r = rest e in record { before = y ∷ r.before; after = r.after; all = ap (λ ys. y ∷ ys) r.all; passes = r.passes; none = (b, r.none) }

pub first_found : {X : Type 0} (p : X → Bool) (xs before after : List X) (x : X) → xs ≡ before ++ x ∷ after → p x ≡ true → AllByRecursion (λ y. p y ≡ false) before → find p xs ≡ Some x
first_found p xs before after x all passes none = ap (find p) all ∙ at before none
  where
    at : (before : List _) → AllByRecursion (λ y. p y ≡ false) before → find p (before ++ x ∷ after) ≡ Some x
    at [] none = ap (λ b. cond b (Some x) (find p after)) passes
    at (y ∷ before) none = ap (λ b. cond b (Some y) (find p (before ++ x ∷ after))) none.0 ∙ at before none.1

-- ---- lists that are mapped

pub record IsMapped {X Y : Type 0} (f : X → Y) (xs : List X) (before : List Y) (y : Y) : Type 0 where
  pub front : List X
  pub here : X
  pub back : List X
  pub all : xs ≡ front ++ here ∷ back
  pub front_is : map f front ≡ before
  pub here_is : f here ≡ y

mapped_behind : {X Y : Type 0} (f : X → Y) (x : X) (xs : List X) (b : Y) (before : List Y) (y : Y) → f x ≡ b → IsMapped f xs before y → IsMapped f (x ∷ xs) (b ∷ before) y
mapped_behind f x xs b before y same r =
    record { front = x ∷ r.front; here = r.here; back = r.back; all = ap (λ ys. x ∷ ys) r.all; front_is = λ i. same i ∷ r.front_is i; here_is = r.here_is }

pub unmapped : {X Y : Type 0} (f : X → Y) (xs : List X) (before after : List Y) (y : Y) → map f xs ≡ before ++ y ∷ after → IsMapped f xs before y
unmapped f [] [] after y e = absurd cc
unmapped f [] (b ∷ before) after y e = absurd cc
unmapped f (x ∷ xs) [] after y e = let same : f x ≡ y = cc in record { front = []; here = x; back = xs; all = refl; front_is = refl; here_is = same }
unmapped f (x ∷ xs) (b ∷ before) after y e =
    let same : f x ≡ b = cc in
    let rest : map f xs ≡ before ++ y ∷ after = cc in
    mapped_behind f x xs b before y same (unmapped f xs before after y rest)
