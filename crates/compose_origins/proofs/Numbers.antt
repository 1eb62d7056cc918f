-- The number of an origin tells the origin, and what is brought has an origin that has a number.
use Rattle.std.proofs.Common.{◌≡◌, ℕ, zero, suc, ◌+◌, ◌*◌, ◌<◌, Bool, true, false, cond, List, [], ◌∷◌, ◌++◌, Option, Some, refl, ap, subst, ◌∙◌, arith}
use Rattle.std.specs.Prelude.{◌&&◌, ◌||◌, ◌==◌, ◌/◌, ◌%◌, bytes_eq, map, slice_get}
use Rattle.std.specs.List.{AllByRecursion, fold, list_any}
use Rattle.std.proofs.lemmas.Bool.{eqb-true, ne_eqb, eq-eqb}
use Rattle.std.proofs.lemmas.Nat.{mod-mul-add, div-mul-add}
use Rattle.comp_entity.specs.Entity.{ShapeTree}
use Rattle.comp_entity.specs.Places.{Path}
use Rattle.compose_left.specs.declared.origin.Held.{Held}
use Rattle.compose_left.specs.declared.origin.Origin.{Origin}
use Rattle.compose_left.specs.declared.origin.Origin.TheVariants as origins
use Rattle.compose_left.specs.declared.spots.Spot.{Spot}
use Rattle.compose_left.specs.Numbers.{IsThere}
use Rattle.compose_left.specs.Origins.{brought_from, held_at, is_made, number_in, origin, place_in, same_origin, same_path, table, with_origin}
use Rattle.compose_left.specs.Spots.{spots}
use Rattle.compose_left.specs.Wiring.{Wiring}
use Rattle.comp_coherence.specs.TypeLaws.{left_of, right_of, label_is}
use Rattle.compose_origins.proofs.Paths.{back, front, itself, some_is}

-- ---- equal origins

pub path_is : (p q : Path) → same_path p q ≡ true → p ≡ q
path_is [] [] h = refl
path_is [] (n ∷ q) h = absurd cc
path_is (m ∷ p) [] h = absurd cc
path_is (m ∷ p) (n ∷ q) h =
    let first = label_is m n (left_of (bytes_eq m n) (same_path p q) h) in
    let rest = path_is p q (right_of (bytes_eq m n) (same_path p q) h) in
    λ i. first i ∷ rest i

path_itself : (p : Path) → same_path p p ≡ true
path_itself [] = refl
path_itself (m ∷ p) = let first = itself m in let rest = path_itself p in λ i. first i && rest i

origin_is : (o p : Origin) → same_origin o p ≡ true → o ≡ p
origin_is (origins.Left n x) (origins.Left m y) h =
    let name = label_is n m (left_of (bytes_eq n m) (same_path x y) h) in
    let path = path_is x y (right_of (bytes_eq n m) (same_path x y) h) in
    λ i. origins.Left (name i) (path i)
origin_is (origins.Made a n) (origins.Made b m) h =
    let instance = eqb-true a b (left_of (a == b) (n == m) h) in
    let number = eqb-true n m (right_of (a == b) (n == m) h) in
    λ i. origins.Made (instance i) (number i)
origin_is (origins.Given a x) (origins.Given b y) h =
    let instance = eqb-true a b (left_of (a == b) (same_path x y) h) in
    let path = path_is x y (right_of (a == b) (same_path x y) h) in
    λ i. origins.Given (instance i) (path i)
origin_is _ _ h = absurd cc

origin_itself : (o : Origin) → same_origin o o ≡ true
origin_itself (origins.Left n x) = let name = itself n in let path = path_itself x in λ i. name i && path i
origin_itself (origins.Made a n) = let instance : (a == a) ≡ true = eq-eqb a a refl in let number : (n == n) ≡ true = eq-eqb n n refl in λ i. instance i && number i
origin_itself (origins.Given a x) = let instance : (a == a) ≡ true = eq-eqb a a refl in let path = path_itself x in λ i. instance i && path i

-- ---- the origin of a number

abbrev pub origin_numbered : ℕ → List Origin → ℕ → Option Origin
origin_numbered k os n = cond (n % suc k == k) (slice_get os (n / suc k)) (Some (origins.Made (n % suc k) (n / suc k)))

place_there : (os : List Origin) (o : Origin) → list_any (λ p. same_origin p o) os ≡ true → slice_get os (place_in os o) ≡ Some o
place_there [] o e = absurd cc
place_there (p ∷ os) o e = one (same_origin p o) refl e (place_there os o)
  where
    one : (b : Bool) → same_origin p o ≡ b → (b || list_any (λ p. same_origin p o) os) ≡ true → (list_any (λ p. same_origin p o) os ≡ true → slice_get os (place_in os o) ≡ Some o) → slice_get (p ∷ os) (cond b 0 (suc (place_in os o))) ≡ Some o
    one true h e rest = ap (λ q. Some q) (origin_is p o h)
    one false h e rest = rest e

in_table : (k : ℕ) (os : List Origin) (o : Origin) → list_any (λ p. same_origin p o) os ≡ true → origin_numbered k os (place_in os o * suc k + k) ≡ Some o
in_table k os o e =
    let last : k < suc k = omega arith in
    let n : ℕ = place_in os o * suc k + k in
    ap (λ t. cond (t == k) (slice_get os (n / suc k)) (Some (origins.Made (n % suc k) (n / suc k)))) (mod-mul-add (place_in os o) (suc k) k last)
    ∙ ap (λ b. cond b (slice_get os (n / suc k)) (Some (origins.Made (n % suc k) (n / suc k)))) (eq-eqb k k refl)
    ∙ ap (λ p. slice_get os p) (div-mul-add (place_in os o) (suc k) k last)
    ∙ place_there os o e

-- an origin that has a number: it is in the table, or one of these instances makes it
abbrev pub IsCounted : ℕ → List Origin → Origin → Type 0
IsCounted k os (origins.Made i n) = i < k
IsCounted k os o = list_any (λ p. same_origin p o) os ≡ true

pub origin_found : (k : ℕ) (os : List Origin) (o : Origin) → IsCounted k os o → origin_numbered k os (number_in k os o) ≡ Some o
origin_found k os (origins.Left n x) h = in_table k os (origins.Left n x) h
origin_found k os (origins.Given i x) h = in_table k os (origins.Given i x) h
origin_found k os (origins.Made i n) h =
    let less : i < suc k = omega (arith, h) in
    let m : ℕ = n * suc k + i in
    let remainder = mod-mul-add n (suc k) i less in
    let quotient = div-mul-add n (suc k) i less in
    ap (λ t. cond (t == k) (slice_get os (m / suc k)) (Some (origins.Made (m % suc k) (m / suc k)))) remainder
    ∙ ap (λ b. cond b (slice_get os (m / suc k)) (Some (origins.Made (m % suc k) (m / suc k)))) (ne_eqb i k (λ e. absurd (omega (arith, h, e))))
    ∙ (λ j. Some (origins.Made (remainder j) (quotient j)))

-- ---- the table

any_front : (p : Origin → Bool) (os ps : List Origin) → list_any p os ≡ true → list_any p (os ++ ps) ≡ true
any_front p [] ps h = absurd cc
any_front p (o ∷ os) ps h = by (p o) h (any_front p os ps)
  where
    by : (b : Bool) → (b || list_any p os) ≡ true → (list_any p os ≡ true → list_any p (os ++ ps) ≡ true) → (b || list_any p (os ++ ps)) ≡ true
    by true h further = refl
    by false h further = further h

any_last : (p : Origin → Bool) (os : List Origin) (o : Origin) → p o ≡ true → list_any p (os ++ o ∷ []) ≡ true
any_last p [] o h = λ i. h i || false
any_last p (q ∷ os) o h = by (p q) (any_last p os o h)
  where
    by : (b : Bool) → list_any p (os ++ o ∷ []) ≡ true → (b || list_any p (os ++ o ∷ [])) ≡ true
    by true h = refl
    by false h = h

there_kept : (os : List Origin) (o p : Origin) → IsThere os o → IsThere (with_origin os p) o
there_kept os o p h = by (is_made p || list_any (λ q. same_origin q p) os)
  where
    of_made : (m : Bool) → (m || list_any (λ q. same_origin q o) os) ≡ true → (m || list_any (λ q. same_origin q o) (os ++ p ∷ [])) ≡ true
    of_made true h = refl
    of_made false h = any_front (λ q. same_origin q o) os (p ∷ []) h

    by : (b : Bool) → IsThere (cond b os (os ++ p ∷ [])) o
    by true = h
    by false = of_made (is_made o) h

there_added : (os : List Origin) (o : Origin) → IsThere (with_origin os o) o
there_added os o = by (is_made o || list_any (λ q. same_origin q o) os) refl
  where
    last : (m : Bool) → (m || list_any (λ q. same_origin q o) (os ++ o ∷ [])) ≡ true
    last true = refl
    last false = any_last (λ q. same_origin q o) os o (origin_itself o)

    by : (b : Bool) → (is_made o || list_any (λ q. same_origin q o) os) ≡ b → IsThere (cond b os (os ++ o ∷ [])) o
    by true h = h
    by false h = last (is_made o)

module _ (w : Wiring) where
  abbrev add : List Origin → Held → List Origin
  add os h = with_origin os (origin w h)

  all_kept : (hs : List Held) (os : List Origin) (o : Origin) → IsThere os o → IsThere (fold add os hs) o
  all_kept [] os o there = there
  all_kept (h ∷ hs) os o there = all_kept hs (add os h) o (there_kept os o (origin w h) there)

  all_there : (hs : List Held) (os : List Origin) → AllByRecursion (λ h. IsThere (fold add os hs) (origin w h)) hs
  all_there [] os = tt
  all_there (h ∷ hs) os = (all_kept hs (add os h) (origin w h) (there_added os (origin w h)), all_there hs (add os h))

  pub table_has : AllByRecursion (λ h. IsThere (table w) (origin w h)) (brought_from 0 w.shapes)
  table_has = all_there (brought_from 0 w.shapes) []

module _ (P : Held → Type 0) where
  of_spots : (i : ℕ) (xs : List Spot) → AllByRecursion P (map (held_at i) xs) → AllByRecursion (λ s. P (held_at i s)) xs
  of_spots i [] h = tt
  of_spots i (x ∷ xs) h = (h.0, of_spots i xs h.1)

  of_shapes : (i : ℕ) (ss : List ShapeTree) (k m : ℕ) (s : ShapeTree) → m ≡ i + k → slice_get ss k ≡ Some s → AllByRecursion P (brought_from i ss) → AllByRecursion (λ x. P (held_at m x)) (spots s.imports)
  of_shapes i [] k m s at there h = absurd cc
  of_shapes i (r ∷ ss) zero m s at there h =
      let first : i ≡ m = omega (arith, at) in
      subst (λ (s : ShapeTree). AllByRecursion (λ x. P (held_at m x)) (spots s.imports)) (some_is r s there)
      (subst (λ m. AllByRecursion (λ x. P (held_at m x)) (spots r.imports)) first
      (of_spots i (spots r.imports) (front P (map (held_at i) (spots r.imports)) (brought_from (suc i) ss) h)))
  of_shapes i (r ∷ ss) (suc k) m s at there h = of_shapes (suc i) ss k m s (omega (arith, at)) there (back P (map (held_at i) (spots r.imports)) (brought_from (suc i) ss) h)

-- the origin of what an import brings is in the table, or an instance makes it
pub brought_there : (w : Wiring) (i : ℕ) (s : ShapeTree) → slice_get w.shapes i ≡ Some s → AllByRecursion (λ x. IsThere (table w) (origin w (held_at i x))) (spots s.imports)
brought_there w i s there = of_shapes (λ h. IsThere (table w) (origin w h)) 0 w.shapes i i s (omega arith) there (table_has w)
