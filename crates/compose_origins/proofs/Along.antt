-- Along wires, what has one origin is one type.
use Rattle.std.proofs.Common.{◌≡◌, ℕ, zero, suc, ◌<◌, Bool, true, false, cond, List, [], ◌∷◌, Option, Some, None, refl, sym, ap, subst, ◌∙◌, arith}
use Rattle.std.specs.Prelude.{◌&&◌, ◌==◌, find, option_and_then, option_map, slice_get}
use Rattle.std.proofs.lemmas.Bool.{eqb-true}
use Rattle.comp_entity.specs.Entity.{Name, made, brought, ValueTree, EntityTree, IsInstance, Entries, no_entry, entry, ShapeTree}
use Rattle.comp_entity.specs.Fits.{same_name, same_truth, under, values_equal}
use Rattle.comp_entity.specs.Names.{changing, value_by}
use Rattle.comp_entity.specs.Places.{Path}
use Rattle.comp_entity.specs.Views.{entries_of}
use Rattle.comp_coherence.specs.Coherence.{Coheres, bare_value, inside_component, nowhere}
use Rattle.compose_left.specs.declared.spots.Spot.{Spot}
use Rattle.compose_left.specs.declared.spots.Thing.{Thing}
use Rattle.compose_left.specs.Origins.{behind, brought_at, given_at, given_path, is_exported_at, names, of_resource, of_type, placed, same_path, same_thing}
use Rattle.compose_left.specs.Spots.{named_type, spots}
use Rattle.compose_left.specs.Wiring.{Wiring}
use Rattle.compose_fit.specs.Fit.{AllFitted, WireFits, fits_under, in_place}
use Rattle.compose_fit.specs.Wires.{Export, Given, Whole, given_of}
use Rattle.comp_coherence.specs.TypeLaws.{left_of, place_stands, right_of}
use Rattle.compose_origins.proofs.Types.{bare_changed}
use Rattle.compose_origins.proofs.Paths.{at_by, at_coheres, at_path, each, fit_at, fit_found, front_or_rest, map_some, near, some_is, then_some}
use Rattle.compose_origins.proofs.Narrowed.{StandFor}
use Rattle.compose_origins.proofs.Spots.{SpotIn, Typed, each_apart, export_under, found, spots_stand}
use Rattle.compose_origins.proofs.Numbers.{path_is}

-- ---- names and things

truth_is : (b : Bool) → same_truth b true ≡ true → b ≡ true
truth_is true h = refl
truth_is false h = absurd cc

thing_is : (a : Thing) (n : Name) → same_thing a (named_type n) ≡ true → a.is_type ≡ true
thing_is a n h = truth_is a.is_type (left_of (same_truth a.is_type true) ((a.out == n.out) && (a.number == n.number)) h)

place_is : (m n : Name) → same_thing (named_type m) (named_type n) ≡ true → m ≡ n
place_is m n h =
    let both : ((m.out == n.out) && (m.number == n.number)) ≡ true = h in
    let out = eqb-true m.out n.out (left_of (m.out == n.out) (m.number == n.number) both) in
    let number = eqb-true m.number n.number (right_of (m.out == n.out) (m.number == n.number) both) in
    λ i. record { out = out i; number = number i }

-- the place of a type at a spot stands for the type
spot_place : (own : Name → Option ValueTree) (e : EntityTree) → Coheres (inside_component own nowhere) e → (x : Spot) (k : Typed e x) → (k.place.out < 2) × (own k.place ≡ Some (bare_value k.tree))
spot_place own e h x k =
    near own k.place (bare_value k.tree)
    (place_stands (inside_component own nowhere) k.tree k.place (at_coheres (inside_component own nowhere) x.path e h k.tree k.there) k.named)

abbrev pub exports_of : ShapeTree → EntityTree
exports_of s = IsInstance (entries_of s.exports)

-- the type at a path behind the name of an export
export_at : (s : ShapeTree) (own : Name → Option ValueTree) → StandFor s own → (k : ℕ) (e : List ℕ × EntityTree) → slice_get s.exports k ≡ Some e → (path : Path) → at_path (e.0 ∷ path) (exports_of s) ≡ at_path path e.1
export_at s own h k e there path = ap (option_and_then (λ (e : EntityTree × Bool). at_path path e.0)) (export_under s.exports h.apart k e there)

-- ---- what exports name

pub record GivenType (s : ShapeTree) (own : Name → Option ValueTree) (path : Path) (t : Thing) : Type 0 where
  pub place : Name
  pub what : t ≡ named_type place
  pub near : place.out < 2
  pub tree : ValueTree
  pub there : at_path path (exports_of s) ≡ Some tree
  pub stands : own place ≡ Some (bare_value tree)

pub given_type : (s : ShapeTree) (own : Name → Option ValueTree) → StandFor s own → (path : Path) (t : Thing) → given_at s true path ≡ Some t → GivenType s own path t
given_type s own h path t is =
    let x = map_some (λ (x : Spot). x.what) (find (is_exported_at true path) (spots s.exports)) t is in
    let f = found (SpotIn 0 s.exports) (is_exported_at true path) (spots s.exports) x.0 (spots_stand 0 s.exports (each_apart s.exports h.apart)) x.1 in
    let k = f.0.typed (truth_is x.0.what.is_type (left_of (same_truth x.0.what.is_type true) (same_path (x.0.name ∷ x.0.path) path) f.1)) in
    let whole = path_is (x.0.name ∷ x.0.path) path (right_of (same_truth x.0.what.is_type true) (same_path (x.0.name ∷ x.0.path) path) f.1) in
    let e = f.0.entity in
    let place = spot_place own e.1 (each (λ (e : List ℕ × EntityTree). Coheres (inside_component own nowhere) e.1) s.exports h.exports f.0.index e f.0.there) x.0 k in
    record {
      place = k.place;
      what = sym x.2 ∙ k.what;
      near = place.0;
      tree = k.tree;
      there = ap (λ path. at_path path (exports_of s)) (sym whole) ∙ ap (λ name. at_path (name ∷ x.0.path) (exports_of s)) f.0.named ∙ export_at s own h f.0.index e f.0.there x.0.path ∙ k.there;
      stands = place.1;
    }

-- ---- what imports bring

pub record BroughtType (s : ShapeTree) (n : Name) (t : ValueTree) (x : Spot) : Type 0 where
  pub spot : SpotIn 0 s.imports x
  pub typed : Typed spot.entity.1 x
  pub what : x.what ≡ named_type n
  pub is_bare : t ≡ bare_value typed.tree

pub in_imports : (s : ShapeTree) (n : Name) (x : Spot) → brought_at s (named_type n) ≡ Some x → find (names (named_type n)) (spots s.imports) ≡ Some x
in_imports s n x is = by (n.out == 1) is
  where
    by : (b : Bool) → cond b (find (names (named_type n)) (spots s.imports)) None ≡ Some x → find (names (named_type n)) (spots s.imports) ≡ Some x
    by true is = is
    by false is = absurd cc

pub brought_type : (s : ShapeTree) (own : Name → Option ValueTree) → StandFor s own → (n : Name) (t : ValueTree) → own n ≡ Some t → (x : Spot) → brought_at s (named_type n) ≡ Some x → BroughtType s n t x
brought_type s own h n t stands x is =
    let f = found (SpotIn 0 s.imports) (names (named_type n)) (spots s.imports) x (spots_stand 0 s.imports h.apart_within) (in_imports s n x is) in
    let k = f.0.typed (thing_is x.what n f.1) in
    let e = f.0.entity in
    let place = spot_place own e.1 (each (λ (e : List ℕ × EntityTree). Coheres (inside_component own nowhere) e.1) s.imports h.imports f.0.index e f.0.there) x k in
    let same = place_is k.place n (subst (λ a. same_thing a (named_type n) ≡ true) k.what f.1) in
    record {
      spot = f.0;
      typed = k;
      what = k.what ∙ ap named_type same;
      is_bare = some_is t (bare_value k.tree) (sym stands ∙ ap own (sym same) ∙ place.1);
    }

no_spot : {A : Type 0} (x : Spot) → None ≡ Some x → A
no_spot x h = absurd cc

-- what no import brings is made
pub is_made_here : (s : ShapeTree) (own : Name → Option ValueTree) → StandFor s own → (n : Name) (t : ValueTree) → n.out < 2 → own n ≡ Some t → brought_at s (named_type n) ≡ None → n ≡ made n.number
is_made_here s own h n t less stands none = by n.out refl less
  where
    by : (out : ℕ) → n.out ≡ out → out < 2 → n ≡ made n.number
    by zero is less = ap (λ out. record { out = out; number = n.number }) is
    by (suc zero) is less =
        let same : n ≡ brought n.number = ap (λ out. record { out = out; number = n.number }) is in
        let x = h.brings n.number t (ap own (sym same) ∙ stands) in
        no_spot x.0 (sym none ∙ ap (λ n. brought_at s (named_type n)) same ∙ x.1)
    by (suc (suc out)) is less = absurd (omega (arith, less))

-- ---- along a wire

module _ (w : Wiring) where
  abbrev pub placed_value : ℕ → ValueTree → ValueTree
  placed_value i t = value_by (changing (of_resource w i) (of_type w i)) 0 t

  pub bare_placed : (i : ℕ) (t : ValueTree) → bare_value (placed_value i t) ≡ placed_value i (bare_value t)
  bare_placed i t = bare_changed (of_resource w i) (of_type w i) t

  abbrev FitAt : ℕ → Path → EntityTree → ℕ → ValueTree → Type 0
  FitAt from path given i v = (u : ValueTree) × (at_path path given ≡ Some u) × (values_equal same_name (placed_value from u) (placed_value i v) ≡ true)

  placed_fit : (from i : ℕ) (given asked : EntityTree) → in_place w from given i asked ≡ true → (path : Path) (v : ValueTree) → at_path path asked ≡ Some v → FitAt from path given i v
  placed_fit from i given asked h path v is =
      let fit = fit_at path (placed w from given) (placed w i asked) h (placed_value i v) (at_by (changing (of_resource w i) (of_type w i)) path asked ∙ ap (option_map (placed_value i)) is) in
      let back = map_some (placed_value from) (at_path path given) fit.0 (sym (at_by (changing (of_resource w from) (of_type w from)) path given) ∙ fit.1) in
      (back.0, back.1, ap (λ u. values_equal same_name u (placed_value i v)) back.2 ∙ fit.2)

  fitted_under : (from : ℕ) (es : Entries) (i : ℕ) (fs : Entries) → AllFitted (in_place w) from es i fs → (name : List ℕ) (x : EntityTree × Bool) → under name fs ≡ Some x → fits_under (in_place w) from es i name x.0 ≡ true
  fitted_under from es i no_entry h name x is = absurd cc
  fitted_under from es i (entry n f mark fs) h name x is =
      front_or_rest name n f mark fs x is
      (λ same whole. ap (λ name. fits_under (in_place w) from es i name x.0) same ∙ ap (λ (x : EntityTree × Bool). fits_under (in_place w) from es i n x.0) (sym whole) ∙ h.0)
      (λ other later. fitted_under from es i fs h.1 name x later)

  whole_fits : (from i : ℕ) (es : Entries) (asked : EntityTree) → WireFits (in_place w) from (Whole es) i asked → (path : Path) (v : ValueTree) → at_path path asked ≡ Some v → FitAt from path (IsInstance es) i v
  whole_fits from i es (IsInstance fs) h [] v is = absurd cc
  whole_fits from i es (IsInstance fs) h (name ∷ path) v is =
      let x = then_some (λ (e : EntityTree × Bool). at_path path e.0) (under name fs) v is in
      let y = fit_found x.0.0 (λ e. in_place w from e i x.0.0) (under name es) (fitted_under from es i fs h name x.0 x.1) in
      let u = placed_fit from i y.0.0 x.0.0 y.2 path v x.2 in
      (u.0, ap (option_and_then (λ (e : EntityTree × Bool). at_path path e.0)) y.1 ∙ u.1, u.2)
  whole_fits from i es _ h path v is = absurd h

  pub given_fits : (from i : ℕ) (s : ShapeTree) (own : Name → Option ValueTree) → StandFor s own → (export : Option ℕ) (given : Given) → given_of s export ≡ Some given → (asked : EntityTree) → WireFits (in_place w) from given i asked
      → (path : Path) (v : ValueTree) → at_path path asked ≡ Some v → FitAt from (given_path s export path) (exports_of s) i v
  given_fits from i s own stand None given gives asked h path v is =
      whole_fits from i (entries_of s.exports) asked
      (subst (λ given. WireFits (in_place w) from given i asked) (sym (some_is (Whole (entries_of s.exports)) given gives)) h) path v is
  given_fits from i s own stand (Some k) given gives asked h path v is =
      let x = map_some (λ (x : List ℕ × EntityTree). Export x.0 x.1) (slice_get s.exports k) given gives in
      let u = placed_fit from i x.0.1 asked (subst (λ given. WireFits (in_place w) from given i asked) (sym x.2) h) path v is in (
        u.0,
        ap (λ (o : Option (List ℕ × EntityTree)). at_path (behind (option_map (λ (x : List ℕ × EntityTree). x.0) o) path) (exports_of s)) x.1 ∙ export_at s own stand k x.0 x.1 path ∙ u.1,
        u.2,
      )
