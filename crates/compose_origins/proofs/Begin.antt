-- The wires of a composition come from what is there.
use Rattle.std.proofs.Common.{◌≡◌, ◌∙◌, ap, sym, subst, refl, arith, ℕ, zero, suc, ◌<◌, Bool, true, false, cond, List, [], ◌∷◌, length, Option, Some, None}
use Rattle.std.specs.Prelude.{IfSome, find, option_and_then, option_map, slice_get, unwrap_or}
use Rattle.std.specs.List.{AllByRecursion}
use Rattle.std.proofs.lemmas.List.{length-map}
use Rattle.std.proofs.lemmas.Option.{same_Some}
use Rattle.comp_entity.specs.Entity.{EntityTree, ShapeTree}
use Rattle.comp_entity.specs.Views.{entries_of}
use Rattle.compose_left.specs.Wiring.{is_into, no_shape}
use Rattle.compose_left.specs.declared.wiring.Wire.{Wire}
use Rattle.compose_fit.specs.Wires.{Given, Whole, Export, given_of}
use Rattle.compose_check.specs.Composition.{CompositionTree, HasEnds, IsBetween, IsComposition, shape_numbered, wiring}
use Rattle.compose_origins.specs.Named.{WiresBegin}

found_holds : (P : Wire → Type 0) (test : Wire → Bool) (ws : List Wire) (w : Wire) → AllByRecursion P ws → find test ws ≡ Some w → P w
found_holds P test [] w h e = absurd cc
found_holds P test (x ∷ xs) w h e = one (test x) e (found_holds P test xs w h.1)
  where
    one : (b : Bool) → cond b (Some x) (find test xs) ≡ Some w → (find test xs ≡ Some w → P w) → P w
    one true k rest = subst P (same_Some x w k) h.0
    one false k rest = rest k

there : {X : Type 0} (xs : List X) (i : ℕ) → i < length xs → (x : X) × (slice_get xs i ≡ Some x)
there [] i lt = absurd (omega (arith, lt))
there (x ∷ xs) zero lt = (x, refl)
there (x ∷ xs) (suc i) lt = there xs i (omega (arith, lt))

given_there : (s : ShapeTree) (export : Option ℕ) → IfSome export (λ n. n < length s.exports) → (given : Given) × (given_of s export ≡ Some given)
given_there s None h = (Whole (entries_of s.exports), refl)
given_there s (Some n) h =
    let e = there s.exports n h in
    (Export e.0.0 e.0.1, ap (option_map (λ (x : List ℕ × EntityTree). Export x.0 x.1)) e.1)

pub wires_begin : (c : CompositionTree) → IsComposition c → WiresBegin (wiring c)
wires_begin c is target import wire e =
    let between = found_holds (IsBetween (length c.instances)) (is_into target import) c.wires wire is.joined e in
    let ends = found_holds (HasEnds (wiring c)) (is_into target import) c.wires wire is.ends e in
    let s = there (wiring c).shapes wire.source (subst (λ n. wire.source < n) (sym (length-map c.instances (shape_numbered c.components))) between.source) in
    let given = given_there s.0 wire.export (subst (λ (o : Option ShapeTree). IfSome wire.export (λ n. n < length (unwrap_or o no_shape).exports)) s.1 ends.export) in
    (given.0, ap (option_and_then (λ x. given_of x wire.export)) s.1 ∙ given.1)
