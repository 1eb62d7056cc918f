-- With the numbers of origins in place, one number stands for one type.
use Rattle.std.proofs.Common.{◌≡◌, ℕ, zero, suc, ◌<◌, true, List, [], ◌∷◌, length, Option, Some, None, refl, sym, ap, subst, ◌∙◌, arith}
use Rattle.std.specs.Prelude.{option_and_then, option_map, slice_get, unwrap_or}
use Rattle.std.specs.List.{AllByRecursion}
use Rattle.comp_entity.specs.Entity.{Name, made, ValueTree, EntityTree, ShapeTree}
use Rattle.comp_entity.specs.Names.{changing, entity_by}
use Rattle.comp_entity.specs.Places.{Path}
use Rattle.comp_coherence.specs.Changes.{CarriesAlong}
use Rattle.comp_coherence.specs.Coherence.{Coheres, Names, bare_value, inside_component, nowhere}
use Rattle.compose_left.specs.declared.origin.Held.{Held}
use Rattle.compose_left.specs.declared.origin.Origin.{Origin}
use Rattle.compose_left.specs.declared.origin.Origin.TheVariants as origins
use Rattle.compose_left.specs.declared.spots.Spot.{Spot}
use Rattle.compose_left.specs.declared.spots.Thing.{Thing}
use Rattle.compose_left.specs.declared.wiring.Wire.{Wire}
use Rattle.compose_left.specs.Numbers.{IsThere}
use Rattle.compose_left.specs.Origins.{along, brought_at, follow, given_at, given_from, given_path, held_at, names, of_brought, of_given, of_resource, of_type, origin, placed, step_from, table}
use Rattle.compose_left.specs.Spots.{named_type, spots}
use Rattle.compose_left.specs.Wiring.{HasNoCircle, Wiring, no_shape, shape_at, wire_into}
use Rattle.compose_fit.specs.Fit.{EachFits, WiresFit, in_place}
use Rattle.compose_fit.specs.Wires.{Joined, given_of}
use Rattle.compose_check.specs.Open.{all_agree, left_open, lefts}
use Rattle.compose_origins.specs.Named.{IsWellNamed, WiresBegin}
use Rattle.compose_origins.specs.Placed.{OneTypeEach, PlacedCohere}
use Rattle.comp_coherence.specs.TypeLaws.{value_is}
use Rattle.compose_origins.proofs.Paths.{at_by, at_path, map_some, near, some_is, then_some}
use Rattle.compose_origins.proofs.Spots.{found, weaker}
use Rattle.compose_origins.proofs.Called.{lefts_call, lefts_stand}
use Rattle.compose_origins.proofs.Merged.{left_type, lefts_cohere, open_stands}
use Rattle.compose_origins.proofs.Numbers.{IsCounted, brought_there, origin_found, origin_numbered}
use Rattle.compose_origins.proofs.Along.{BroughtType, bare_placed, brought_type, exports_of, given_fits, given_type, in_imports, is_made_here, placed_value}
use Rattle.compose_origins.proofs.Narrowed.{StandFor, own_tree, stand_for}

-- ---- types of origins

abbrev pub held : ℕ → Name → Held
held i n = record { instance = i; thing = named_type n }

-- what origins pass along, along wires
abbrev pub Passes : Wiring → Type 0
Passes w = (h : Held) → origin w h ≡ follow (origin w) (step_from w h)

-- the types for which the places of each instance stand
pub record Trees (w : Wiring) : Type 0 where
  pub tree : ℕ → Name → Option ValueTree
  pub stand : (i : ℕ) (s : ShapeTree) → slice_get w.shapes i ≡ Some s → StandFor s (tree i)
  pub within : (i : ℕ) (n : Name) (t : ValueTree) → tree i n ≡ Some t → i < length w.shapes

module _ (w : Wiring) (circle : HasNoCircle w) (passes : Passes w) (fits : EachFits (in_place w) w) (begins : WiresBegin w) (trees : Trees w) (merges : all_agree [] (left_open w) ≡ true) where
  -- the type that a thing has where it begins, with the numbers of origins in place
  abbrev origin_type : Origin → Option ValueTree
  origin_type (origins.Left name path) = left_type name path (lefts w)
  origin_type (origins.Made i n) = option_map (placed_value w i) (trees.tree i (made n))
  origin_type (origins.Given i path) = option_map (λ t. bare_value (placed_value w i t)) (at_path path (exports_of (shape_at w.shapes i)))

  abbrev Known : ℕ → Name → ValueTree → Type 0
  Known i n t = origin_type (origin w (held i n)) ≡ Some (placed_value w i t)

  abbrev KnownBelow : ℕ → Type 0
  KnownBelow k = (i : ℕ) (s : ShapeTree) → circle.place i < k → slice_get w.shapes i ≡ Some s → (n : Name) (t : ValueTree) → n.out < 2 → trees.tree i n ≡ Some t → Known i n t

  shape_is : (i : ℕ) (s : ShapeTree) → slice_get w.shapes i ≡ Some s → shape_at w.shapes i ≡ s
  shape_is i s there = ap (λ (o : Option ShapeTree). unwrap_or o no_shape) there

  -- what a wire gives for a type that is asked
  record Wired (i : ℕ) (wire : Wire) (path : Path) (v : ValueTree) : Type 0 where
    source : ShapeTree
    there : slice_get w.shapes wire.source ≡ Some source
    tree : ValueTree
    given : at_path (given_path source wire.export path) (exports_of source) ≡ Some tree
    same : bare_value (placed_value w wire.source tree) ≡ placed_value w i (bare_value v)

  wired : (i j : ℕ) (wire : Wire) → wire_into w.wires i j ≡ Some wire → (s : ShapeTree) → slice_get w.shapes i ≡ Some s → (e : List ℕ × EntityTree) → slice_get s.imports j ≡ Some e → (path : Path) (v : ValueTree) → at_path path e.1 ≡ Some v → Wired i wire path v
  wired i j wire into s there e import path v is =
      let g = begins i j wire into in
      let r = then_some (λ s. given_of s wire.export) (slice_get w.shapes wire.source) g.0 g.1 in
      let joined : Joined w i j = record {
        wire = wire;
        name = e.0;
        asked = e.1;
        given = g.0;
        wired = into;
        asks = ap (option_and_then (λ (s : ShapeTree). slice_get s.imports j)) there ∙ import;
        gives = g.1;
      } in
      let u = given_fits w wire.source i r.0 (trees.tree wire.source) (trees.stand wire.source r.0 r.1) wire.export g.0 r.2 e.1 (fits i j joined) path v is in
      record {
        source = r.0;
        there = r.1;
        tree = u.0;
        given = u.1;
        same = value_is (placed_value w wire.source u.0) (placed_value w i v) u.2 ∙ bare_placed w i v;
      }

  module _ (k : ℕ) (further : KnownBelow k) (i : ℕ) (s : ShapeTree) (less : circle.place i < suc k) (there : slice_get w.shapes i ≡ Some s) (n : Name) (t : ValueTree) (x : Spot) (b : BroughtType s n t x) where
    abbrev Ends : Origin → Type 0
    Ends o = origin_type o ≡ Some (placed_value w i t)

    -- a thing that a wire gives
    module _ (wire : Wire) (into : wire_into w.wires i x.number ≡ Some wire) (g : Wired i wire x.path b.typed.tree) where
      abbrev whole : Path
      whole = given_path g.source wire.export x.path

      same_type : bare_value (placed_value w wire.source g.tree) ≡ placed_value w i t
      same_type = g.same ∙ ap (placed_value w i) (sym b.is_bare)

      of_thing : (o : Option Thing) → given_at g.source true whole ≡ o → Ends (follow (origin w) (of_given wire.source whole o))
      of_thing None none =
          ap (λ s. option_map (λ t. bare_value (placed_value w wire.source t)) (at_path whole (exports_of s))) (shape_is wire.source g.source g.there)
          ∙ ap (option_map (λ t. bare_value (placed_value w wire.source t))) g.given
          ∙ ap Some same_type
      of_thing (Some thing) is =
          let f = given_type g.source (trees.tree wire.source) (trees.stand wire.source g.source g.there) whole thing is in
          let same : f.tree ≡ g.tree = some_is f.tree g.tree (sym f.there ∙ g.given) in
          let earlier = circle.behind i x.number wire into in
          ap (λ thing. origin_type (origin w (record { instance = wire.source; thing = thing }))) f.what
          ∙ further wire.source g.source (omega (arith, earlier, less)) g.there f.place (bare_value f.tree) f.near f.stands
          ∙ ap Some (sym (bare_placed w wire.source f.tree) ∙ ap (λ t. bare_value (placed_value w wire.source t)) same ∙ same_type)

      of_source : Ends (follow (origin w) (along w x (Some wire)))
      of_source =
          ap (λ r. origin_type (follow (origin w) (given_from r wire x.what.is_type (given_path r wire.export x.path)))) (shape_is wire.source g.source g.there)
          ∙ ap (λ (what : Thing). origin_type (follow (origin w) (given_from g.source wire what.is_type whole))) b.what
          ∙ of_thing (given_at g.source true whole) refl

    of_wire : (o : Option Wire) → wire_into w.wires i x.number ≡ o → Ends (follow (origin w) (along w x o))
    of_wire None none =
        let e = b.spot.entity in
        let index : b.spot.index ≡ x.number = (let is = b.spot.numbered in omega (arith, is)) in
        let import : slice_get s.imports x.number ≡ Some e = ap (slice_get s.imports) (sym index) ∙ b.spot.there in
        ap (λ name. left_type name x.path (lefts w)) b.spot.named
        ∙ open_stands w merges i s there x.number e import none x.path (placed_value w i b.typed.tree)
        (at_by (changing (of_resource w i) (of_type w i)) x.path e.1 ∙ ap (option_map (placed_value w i)) b.typed.there)
        ∙ ap Some (bare_placed w i b.typed.tree ∙ ap (placed_value w i) (sym b.is_bare))
    of_wire (Some wire) into =
        let e = b.spot.entity in
        let index : b.spot.index ≡ x.number = (let is = b.spot.numbered in omega (arith, is)) in
        let import : slice_get s.imports x.number ≡ Some e = ap (slice_get s.imports) (sym index) ∙ b.spot.there in
        of_source wire into (wired i x.number wire into s there e import x.path b.typed.tree b.typed.there)

  step : (k : ℕ) → KnownBelow k → KnownBelow (suc k)
  step k further i s less there n t low stands =
      ap origin_type (passes (held i n))
      ∙ ap (λ s. origin_type (follow (origin w) (of_brought w (held i n) (brought_at s (named_type n))))) (shape_is i s there)
      ∙ of_spot (brought_at s (named_type n)) refl
    where
      of_spot : (o : Option Spot) → brought_at s (named_type n) ≡ o → origin_type (follow (origin w) (of_brought w (held i n) o)) ≡ Some (placed_value w i t)
      of_spot None none =
          let same = is_made_here s (trees.tree i) (trees.stand i s there) n t low stands none in
          ap (option_map (placed_value w i)) (ap (trees.tree i) (sym same) ∙ stands)
      of_spot (Some x) is =
          of_wire k further i s less there n t x (brought_type s (trees.tree i) (trees.stand i s there) n t stands x is) (wire_into w.wires i x.number) refl

  known_below : (k : ℕ) → KnownBelow k
  known_below zero = λ i s less there n t low stands. absurd (omega (arith, less))
  known_below (suc k) = step k (known_below k)

  known : (i : ℕ) (s : ShapeTree) → slice_get w.shapes i ≡ Some s → (n : Name) (t : ValueTree) → n.out < 2 → trees.tree i n ≡ Some t → Known i n t
  known i s there n t low stands = known_below (suc (circle.place i)) i s (omega arith) there n t low stands

  -- ---- numbers

  is_counted : (o : Origin) (u : ValueTree) → origin_type o ≡ Some u → IsThere (table w) o → IsCounted (length w.shapes) (table w) o
  is_counted (origins.Left name path) u is h = h
  is_counted (origins.Given i path) u is h = h
  is_counted (origins.Made i n) u is h = let t = map_some (placed_value w i) (trees.tree i (made n)) u is in trees.within i (made n) t.0 t.1

  is_there : (i : ℕ) (s : ShapeTree) → slice_get w.shapes i ≡ Some s → (n : Name) (t : ValueTree) → trees.tree i n ≡ Some t → IsThere (table w) (origin w (held i n))
  is_there i s there n t stands = of_spot (brought_at s (named_type n)) refl
    where
      of_spot : (o : Option Spot) → brought_at s (named_type n) ≡ o → IsThere (table w) (origin w (held i n))
      of_spot None none =
          let is : origin w (held i n) ≡ origins.Made i n.number =
          passes (held i n)
          ∙ ap (λ s. follow (origin w) (of_brought w (held i n) (brought_at s (named_type n)))) (shape_is i s there)
          ∙ ap (λ (o : Option Spot). follow (origin w) (of_brought w (held i n) o)) none in
          subst (IsThere (table w)) (sym is) refl
      of_spot (Some x) is =
          let b = brought_type s (trees.tree i) (trees.stand i s there) n t stands x is in
          let f = found (λ x. IsThere (table w) (origin w (held_at i x))) (names (named_type n)) (spots s.imports) x (brought_there w i s there) (in_imports s n x is) in
          subst (λ thing. IsThere (table w) (origin w (record { instance = i; thing = thing }))) b.what f.0

  -- any resource may be mentioned, and a number stands for the type of its origin
  abbrev numbers : Names
  numbers = record { resource = λ r. true; tree = λ m. option_and_then origin_type (origin_numbered (length w.shapes) (table w) m.number) }

  carries : (i : ℕ) (s : ShapeTree) → slice_get w.shapes i ≡ Some s → CarriesAlong (of_resource w i) (of_type w i) (inside_component (trees.tree i) nowhere) numbers
  carries i s there = record {
    resources = λ r h. refl;
    trees = λ n t is.
        (let stands = near (trees.tree i) n t is in
        let o = known i s there n t stands.0 stands.1 in
        let counted = is_counted (origin w (held i n)) (placed_value w i t) o (is_there i s there n t stands.1) in
        ap (option_and_then origin_type) (origin_found (length w.shapes) (table w) (origin w (held i n)) counted) ∙ o);
  }

  -- what coheres with the names of a shape does so with numbers in place
  abbrev Carried : Type 0
  Carried = (resource place : Name → Name) (before after : Names) → CarriesAlong resource place before after
      → (e : EntityTree) → Coheres before e → Coheres after (entity_by (changing resource place) 0 e)

  whole_from : Carried → OneTypeEach w
  whole_from carried = record {
    names = numbers;
    imports = imports;
    exports = exports;
    lefts = lefts_cohere numbers w imports;
    stands = lefts_stand numbers w merges (λ i s there. (trees.stand i s there).apart_within) imports;
    calls = lefts_call numbers w merges (λ i s there. (trees.stand i s there).apart_within) imports;
  }
    where
      entity : (i : ℕ) (s : ShapeTree) → slice_get w.shapes i ≡ Some s → (e : List ℕ × EntityTree) → Coheres (inside_component (trees.tree i) nowhere) e.1 → Coheres numbers (placed w i e.1)
      entity i s there e h = carried (of_resource w i) (of_type w i) (inside_component (trees.tree i) nowhere) numbers (carries i s there) e.1 h

      imports : (i : ℕ) (s : ShapeTree) → slice_get w.shapes i ≡ Some s → PlacedCohere numbers w i s.imports
      imports i s there = weaker (λ (e : List ℕ × EntityTree). Coheres (inside_component (trees.tree i) nowhere) e.1) (λ (e : List ℕ × EntityTree). Coheres numbers (placed w i e.1)) (entity i s there) s.imports (trees.stand i s there).imports

      exports : (i : ℕ) (s : ShapeTree) → slice_get w.shapes i ≡ Some s → PlacedCohere numbers w i s.exports
      exports i s there = weaker (λ (e : List ℕ × EntityTree). Coheres (inside_component (trees.tree i) nowhere) e.1) (λ (e : List ℕ × EntityTree). Coheres numbers (placed w i e.1)) (entity i s there) s.exports (trees.stand i s there).exports

-- ---- types of all shapes

trees_of : (ss : List ShapeTree) → AllByRecursion IsWellNamed ss → ℕ → Name → Option ValueTree
trees_of [] h i n = None
trees_of (s ∷ ss) h zero n = own_tree s h.0 n
trees_of (s ∷ ss) h (suc i) n = trees_of ss h.1 i n

trees_stand : (ss : List ShapeTree) (h : AllByRecursion IsWellNamed ss) (i : ℕ) (s : ShapeTree) → slice_get ss i ≡ Some s → StandFor s (trees_of ss h i)
unfolding trees_of
trees_stand [] h i s is = absurd cc
trees_stand (r ∷ ss) h zero s is = subst (λ s. StandFor s (own_tree r h.0)) (some_is r s is) (stand_for r h.0)
trees_stand (r ∷ ss) h (suc i) s is = trees_stand ss h.1 i s is

trees_within : (ss : List ShapeTree) (h : AllByRecursion IsWellNamed ss) (i : ℕ) (n : Name) (t : ValueTree) → trees_of ss h i n ≡ Some t → i < length ss
unfolding trees_of
trees_within [] h i n t is = absurd cc
trees_within (s ∷ ss) h zero n t is = omega arith
trees_within (s ∷ ss) h (suc i) n t is = let rest = trees_within ss h.1 i n t is in omega (arith, rest)

pub one_type_each : ((w : Wiring) → HasNoCircle w → Passes w)
    → ((resource place : Name → Name) (before after : Names) → CarriesAlong resource place before after
    → (e : EntityTree) → Coheres before e → Coheres after (entity_by (changing resource place) 0 e))
    → (w : Wiring) → HasNoCircle w → WiresFit w → WiresBegin w → AllByRecursion IsWellNamed w.shapes → all_agree [] (left_open w) ≡ true → OneTypeEach w
one_type_each passes carried w circle fits begins named merges =
    let trees : Trees w = record { tree = trees_of w.shapes named; stand = trees_stand w.shapes named; within = trees_within w.shapes named } in
    whole_from w circle (passes w circle) fits.in_place begins trees merges carried
