-- The left import of a number: the origin of each thing of the number is in an import of that name which is left open.
use Rattle.std.proofs.Common.{◌≡◌, ◌==◌, ◌+◌, ◌*◌, ◌<◌, ℕ, zero, suc, Bool, true, false, List, [], ◌∷◌, length, Option, Some, None, refl, sym, ap, ◌∙◌, arith}
use Rattle.std.specs.Prelude.{◌/◌, bytes_eq, find, option_map, option_and_then, slice_get, unwrap_or, if◌then◌else◌}
use Rattle.std.proofs.lemmas.Bool.{and_parts, eq-eqb, ne_eqb}
use Rattle.std.proofs.lemmas.Nat.{mod-mul-add, div-mul-add}
use Rattle.std.proofs.lemmas.Option.{same_Some, slice_get_within}
use Rattle.std.proofs.lemmas.Slice.Eq.{bytes_eq-Decides}
use Rattle.comp_entity.specs.Entity.{ShapeTree}
use Rattle.comp_entity.specs.Fits.{same_truth}
use Rattle.comp_entity.specs.Places.{Path}
use Rattle.compose_left.specs.declared.origin.Origin.{Origin}
use Rattle.compose_left.specs.declared.origin.Origin.TheVariants as origins
use Rattle.compose_left.specs.declared.origin.Held.{Held}
use Rattle.compose_left.specs.declared.spots.Spot.{Spot}
use Rattle.compose_left.specs.declared.spots.Thing.{Thing}
use Rattle.compose_left.specs.declared.wiring.Wire.{Wire}
use Rattle.compose_left.specs.Origins.{along, brought_at, follow, given_at, given_path, import_at, import_of, is_exported_at, names, number_in, number_of, of_brought, of_given, origin, origin_within, place_in, same_origin, same_path, table}
use Rattle.compose_left.specs.Spots.{spots}
use Rattle.compose_left.specs.Wiring.{Wiring, no_shape, shape_at, wire_into}
use Rattle.compose_needs.specs.Lefts.{lefts_of}
use Rattle.compose_needs.specs.ThingLaws.{same_things}

-- ---- numbers

-- an origin is of the left import of this name
abbrev pub IsOf : List ℕ → Origin → Type 0
IsOf m (origins.Left n x) = n ≡ m
IsOf m (origins.Made i n) = ⊥
IsOf m (origins.Given i x) = ⊥

-- what an instance makes, an instance that is there does
abbrev MakerIsThere : ℕ → Origin → Type 0
MakerIsThere count (origins.Made i n) = i < count
MakerIsThere count (origins.Left n x) = Unit {0}
MakerIsThere count (origins.Given i x) = Unit {0}

place_is : (os : List Origin) (o p : Origin) → slice_get os (place_in os o) ≡ Some p → same_origin p o ≡ true
place_is [] o p h = absurd cc
place_is (q ∷ os) o p h = one (same_origin q o) refl h (place_is os o p)
  where
    one : (b : Bool) → same_origin q o ≡ b → slice_get (q ∷ os) (if b then 0 else suc (place_in os o)) ≡ Some p
        → (slice_get os (place_in os o) ≡ Some p → same_origin p o ≡ true) → same_origin p o ≡ true
    one true e h rest = ap (λ x. same_origin x o) (sym (same_Some q p h)) ∙ e
    one false e h rest = rest h

same_of : (p o : Origin) (m : List ℕ) → same_origin p o ≡ true → import_of p ≡ Some m → IsOf m o
same_of (origins.Left n x) (origins.Left k y) m h e =
    sym ((bytes_eq-Decides n k).0 (and_parts (bytes_eq n k) (same_path x y) h).0) ∙ same_Some n m e
same_of (origins.Left n x) (origins.Made i k) m h e = absurd cc
same_of (origins.Left n x) (origins.Given i y) m h e = absurd cc
same_of (origins.Made i n) o m h e = absurd cc
same_of (origins.Given i n) o m h e = absurd cc

found_of : (p : Option Origin) (o : Origin) (m : List ℕ) → ((q : Origin) → p ≡ Some q → same_origin q o ≡ true)
    → option_and_then import_of p ≡ Some m → IsOf m o
found_of None o m same h = absurd cc
found_of (Some q) o m same h = same_of q o m (same q refl) h

module _ (k : ℕ) (os : List Origin) (m : List ℕ) where
  placed_of : (o : Origin) → import_at k os (place_in os o * suc k + k) ≡ Some m → IsOf m o
  placed_of o h =
      let last : k < suc k = omega arith in
      found_of (slice_get os (place_in os o)) o m (place_is os o)
      (sym (ap (λ t. if t == k then option_and_then import_of
      (slice_get os ((place_in os o * suc k + k) / suc k)) else None) (mod-mul-add (place_in os o) (suc k) k last)
      ∙ ap (λ b. if b then option_and_then import_of (slice_get os ((place_in os o * suc k + k) / suc k)) else None)
      (eq-eqb k k refl)
      ∙ ap (λ p. option_and_then import_of (slice_get os p)) (div-mul-add (place_in os o) (suc k) k last)) ∙ h)

  told_of : (o : Origin) → MakerIsThere k o → import_at k os (number_in k os o) ≡ Some m → IsOf m o
  told_of (origins.Left n x) there h = placed_of (origins.Left n x) h
  told_of (origins.Given i x) there h = placed_of (origins.Given i x) h
  told_of (origins.Made i n) there h =
      let less : i < suc k = omega (arith, there) in
      let none : import_at k os (n * suc k + i) ≡ None =
      ap (λ t. if t == k then option_and_then import_of (slice_get os ((n * suc k + i) / suc k)) else None)
      (mod-mul-add n (suc k) i less)
      ∙ ap (λ b. if b then option_and_then import_of (slice_get os ((n * suc k + i) / suc k)) else None)
      (ne_eqb i k (λ e. absurd (omega (arith, there, e)))) in
      absurd (no (sym none ∙ h))
    where
      no : None ≡ Some m → ⊥
      no e = absurd cc

-- ---- along wires

find_is : {X : Type 0} (p : X → Bool) (xs : List X) (x : X) → find p xs ≡ Some x → p x ≡ true
find_is p [] x h = absurd cc
find_is p (y ∷ xs) x h = one (p y) refl h (find_is p xs x)
  where
    one : (b : Bool) → p y ≡ b → (if b then Some y else find p xs) ≡ Some x → (find p xs ≡ Some x → p x ≡ true)
        → p x ≡ true
    one true e h rest = ap p (sym (same_Some y x h)) ∙ e
    one false e h rest = rest h

same_truths : (a b : Bool) → same_truth a b ≡ true → a ≡ b
same_truths true true e = refl
same_truths true false e = absurd cc
same_truths false true e = absurd cc
same_truths false false e = refl

-- where the instance of a shape is not, nothing is exported
nothing_given : (is_type : Bool) (path : Path) (t : Thing) (w : Wiring) (i : ℕ)
    → given_at (shape_at w.shapes i) is_type path ≡ Some t → i < length w.shapes
nothing_given is_type path t w i h = one (slice_get w.shapes i) refl h
  where
    one : (s : Option ShapeTree) → slice_get w.shapes i ≡ s → given_at (unwrap_or s no_shape) is_type path ≡ Some t
        → i < length w.shapes
    one None e h = absurd cc
    one (Some s) e h = slice_get_within w.shapes i s e

given_type : (is_type : Bool) (path : Path) (xs : List Spot) (t : Thing)
    → option_map (λ (x : Spot). x.what) (find (is_exported_at is_type path) xs) ≡ Some t → t.is_type ≡ is_type
given_type is_type path xs t h = one (find (is_exported_at is_type path) xs) refl h
  where
    one : (o : Option Spot) → find (is_exported_at is_type path) xs ≡ o → option_map (λ (x : Spot). x.what) o ≡ Some t
        → t.is_type ≡ is_type
    one None e h = absurd cc
    one (Some s) e h =
        let k = and_parts (same_truth s.what.is_type is_type) (same_path (s.name ∷ s.path) path)
        (find_is (is_exported_at is_type path) xs s e) in
        ap (λ (x : Thing). x.is_type) (sym (same_Some s.what t h)) ∙ same_truths s.what.is_type is_type k.0

-- the end of the wires from a thing, where it is in an import of this name that is left open
pub record Ends (w : Wiring) (is_type : Bool) (m : List ℕ) (o : Origin) : Type 0 where
  pub instance : ℕ
  pub thing : Thing
  pub there : instance < length w.shapes
  pub spot : Spot
  pub brought : brought_at (shape_at w.shapes instance) thing ≡ Some spot
  pub unwired : wire_into w.wires instance spot.number ≡ None
  pub named : spot.name ≡ m
  pub kind : thing.is_type ≡ is_type
  pub origin_is : origins.Left spot.name spot.path ≡ o

module _ (w : Wiring) where
  spot_is : (h : Held) (s : Spot) → brought_at (shape_at w.shapes h.instance) h.thing ≡ Some s → s.what ≡ h.thing
  spot_is h s e = one (h.thing.out == 1) e
    where
      one : (b : Bool) → (if b then find (names h.thing) (spots (shape_at w.shapes h.instance).imports) else None)
          ≡ Some s → s.what ≡ h.thing
      one true e = same_things s.what h.thing (find_is (names h.thing)
          (spots (shape_at w.shapes h.instance).imports) s e)
      one false e = absurd cc

  ends : (k : ℕ) (h : Held) (m : List ℕ) → h.instance < length w.shapes → IsOf m (origin_within k w h)
      → Ends w h.thing.is_type m (origin_within k w h)
  unfolding origin_within
  ends zero h m lt of = absurd of
  ends (suc k) h m lt of = brought (brought_at (shape_at w.shapes h.instance) h.thing) refl of (ends k)
    where
      wired : (s : Spot) → brought_at (shape_at w.shapes h.instance) h.thing ≡ Some s → (wire : Option Wire)
          → wire_into w.wires h.instance s.number ≡ wire
          → IsOf m (follow (origin_within k w) (along w s wire))
          → ((h : Held) (m : List ℕ) → h.instance < length w.shapes → IsOf m (origin_within k w h)
          → Ends w h.thing.is_type m (origin_within k w h))
          → Ends w h.thing.is_type m (follow (origin_within k w) (along w s wire))
      wired s is None e of rest =
          record {
            instance =
                h.instance;
            thing =
                h.thing;
            there = lt;
            spot = s;
            brought = is;
            unwired = e;
            named = of;
            kind = refl;
            origin_is = refl;
          }
      wired s is (Some wire) e of rest = given (given_at source s.what.is_type path) refl of
        where
          source : ShapeTree
          source = shape_at w.shapes wire.source

          path : Path
          path = given_path (shape_at w.shapes wire.source) wire.export s.path

          given : (t : Option Thing) → given_at source s.what.is_type path ≡ t
              → IsOf m (follow (origin_within k w) (of_given wire.source path t))
              → Ends w h.thing.is_type m (follow (origin_within k w) (of_given wire.source path t))
          given None e of = absurd of
          given (Some t) e of =
              let kind : t.is_type ≡ h.thing.is_type = given_type s.what.is_type path (spots source.exports) t e
              ∙ ap (λ (x : Thing). x.is_type) (spot_is h s is) in
              let r = rest (record { instance = wire.source; thing = t }) m
              (nothing_given s.what.is_type path t w wire.source e) of in
              record {
                instance =
                    r.instance;
                thing =
                    r.thing;
                there =
                    r.there;
                spot =
                    r.spot;
                brought =
                    r.brought;
                unwired = r.unwired;
                named = r.named;
                kind = r.kind ∙ kind;
                origin_is = r.origin_is;
              }

      brought : (o : Option Spot) → brought_at (shape_at w.shapes h.instance) h.thing ≡ o
          → IsOf m (follow (origin_within k w) (of_brought w h o))
          → ((h : Held) (m : List ℕ) → h.instance < length w.shapes → IsOf m (origin_within k w h)
          → Ends w h.thing.is_type m (origin_within k w h))
          → Ends w h.thing.is_type m (follow (origin_within k w) (of_brought w h o))
      brought None e of rest = absurd of
      brought (Some s) e of rest = wired s e (wire_into w.wires h.instance s.number) refl of rest

  maker_there : (k : ℕ) (h : Held) → h.instance < length w.shapes → MakerIsThere (length w.shapes) (origin_within k w h)
  unfolding origin_within
  maker_there zero h lt = lt
  maker_there (suc k) h lt = brought (brought_at (shape_at w.shapes h.instance) h.thing) (maker_there k)
    where
      given : (s : Spot) (wire : Wire) (path : Path) → (t : Option Thing)
          → given_at (shape_at w.shapes wire.source) s.what.is_type path ≡ t
          → ((h : Held) → h.instance < length w.shapes → MakerIsThere (length w.shapes) (origin_within k w h))
          → MakerIsThere (length w.shapes) (follow (origin_within k w) (of_given wire.source path t))
      given s wire path None e rest = tt
      given s wire path (Some t) e rest =
          rest (record { instance = wire.source; thing = t }) (nothing_given s.what.is_type path t w wire.source e)

      wired : (s : Spot) (wire : Option Wire)
          → ((h : Held) → h.instance < length w.shapes → MakerIsThere (length w.shapes) (origin_within k w h))
          → MakerIsThere (length w.shapes) (follow (origin_within k w) (along w s wire))
      wired s None rest = tt
      wired s (Some wire) rest =
          given s wire (given_path (shape_at w.shapes wire.source) wire.export s.path)
          (given_at (shape_at w.shapes wire.source) s.what.is_type
          (given_path (shape_at w.shapes wire.source) wire.export s.path)) refl rest

      brought : (o : Option Spot) → ((h : Held) → h.instance < length w.shapes
          → MakerIsThere (length w.shapes) (origin_within k w h))
          → MakerIsThere (length w.shapes) (follow (origin_within k w) (of_brought w h o))
      brought None rest = lt
      brought (Some s) rest = wired s (wire_into w.wires h.instance s.number) rest

  -- a thing of an instance, by the number of its origin
  abbrev pub numbered : ℕ → Thing → Thing
  numbered i t = record { is_type = t.is_type; out = 0; number = number_of w (record { instance = i; thing = t }) }

  end_origin : (i : ℕ) (t : Thing) (s : Spot) → brought_at (shape_at w.shapes i) t ≡ Some s
      → wire_into w.wires i s.number ≡ None → origin w (record { instance = i; thing = t }) ≡ origins.Left s.name s.path
  unfolding origin_within
  end_origin i t s is e =
      ap (λ o. follow (origin_within (length w.shapes) w) (of_brought w (record { instance = i; thing = t }) o)) is
      ∙ ap (λ o. follow (origin_within (length w.shapes) w) (along w s o)) e

  -- what comes from a left import has the number of what is brought by an import of that name, which is left open
  pub record Comes (t : Thing) (m : List ℕ) : Type 0 where
    pub instance : ℕ
    pub thing : Thing
    pub there : instance < length w.shapes
    pub spot : Spot
    pub brought : brought_at (shape_at w.shapes instance) thing ≡ Some spot
    pub unwired : wire_into w.wires instance spot.number ≡ None
    pub named : spot.name ≡ m
    pub same : numbered instance thing ≡ t

  pub comes : (i : ℕ) (t : Thing) (m : List ℕ) → i < length w.shapes → lefts_of w (numbered i t).number ≡ Some m
      → Comes (numbered i t) m
  comes i t m lt h =
      let o = origin w (record { instance = i; thing = t }) in
      let e = ends (suc (length w.shapes)) (record { instance = i; thing = t }) m lt
      (told_of (length w.shapes) (table w) m o
      (maker_there (suc (length w.shapes)) (record { instance = i; thing = t }) lt) h) in
      let same : origin w (record { instance = e.instance; thing = e.thing })
      ≡ o = end_origin e.instance e.thing e.spot e.brought e.unwired ∙ e.origin_is in
      record {
        instance = e.instance;
        thing = e.thing;
        there = e.there;
        spot = e.spot;
        brought = e.brought;
        unwired = e.unwired;
        named = e.named;
        same = λ j. record { is_type = e.kind j; out = 0; number = number_in (length w.shapes) (table w) (same j) };
      }
