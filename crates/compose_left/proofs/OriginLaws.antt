-- How many wires are followed: as many as there are instances are enough, where wires have no circle.
use Rattle.std.proofs.Common.{◌≡◌, ℕ, zero, suc, ◌<◌, length, Option, Some, None, refl, ap, arith}
use Rattle.comp_entity.specs.Places.{Path}
use Rattle.compose_left.specs.declared.wiring.Wire.{Wire}
use Rattle.compose_left.specs.declared.spots.Thing.{Thing}
use Rattle.compose_left.specs.declared.spots.Spot.{Spot}
use Rattle.compose_left.specs.declared.origin.Origin.{Origin}
use Rattle.compose_left.specs.declared.origin.Held.{Held}
use Rattle.compose_left.specs.declared.origin.Step.{Step}
use Rattle.compose_left.specs.declared.origin.Step.TheVariants as step
use Rattle.compose_left.specs.Wiring.{Wiring, HasNoCircle, shape_at, wire_into}
use Rattle.compose_left.specs.Origins.{of_given, given_at, given_path, along, of_brought, brought_at, step_from, follow, origin_within, origin}

given_goes : (source : ℕ) (path : Path) (o : Option Thing) (g : Held) → of_given source path o ≡ step.Goes g → source ≡ g.instance
given_goes source path None g e = absurd cc
given_goes source path (Some t) g e = let same : record { instance = source; thing = t } ≡ g = cc in ap (λ (h : Held). h.instance) same

pub record Down (w : Wiring) (target import : ℕ) (g : Held) : Type 0 where
  pub wire : Wire
  pub into : wire_into w.wires target import ≡ Some wire
  pub source : wire.source ≡ g.instance

along_goes : (w : Wiring) (s : Spot) (target : ℕ) (o : Option Wire) (g : Held) → wire_into w.wires target s.number ≡ o → along w s o ≡ step.Goes g → Down w target s.number g
along_goes w s target None g i e = absurd cc
along_goes w s target (Some wire) g i e = record {
  wire = wire;
  into = i;
  source = given_goes wire.source (given_path (shape_at w.shapes wire.source) wire.export s.path) (given_at (shape_at w.shapes wire.source) s.what.is_type (given_path (shape_at w.shapes wire.source) wire.export s.path)) g e;
}

brought_goes : (w : Wiring) (h : Held) (o : Option Spot) (g : Held) → of_brought w h o ≡ step.Goes g → (import : ℕ) × Down w h.instance import g
brought_goes w h None g e = absurd cc
brought_goes w h (Some s) g e = (s.number, along_goes w s h.instance (wire_into w.wires h.instance s.number) g refl e)

module _ (w : Wiring) (n : HasNoCircle w) where
  -- one wire further on is a place in front
  pub goes_down : (h g : Held) → step_from w h ≡ step.Goes g → n.place g.instance < n.place h.instance
  goes_down h g e =
      let d = brought_goes w h (brought_at (shape_at w.shapes h.instance) h.thing) g e in
      let lt = n.behind h.instance d.0 d.1.wire d.1.into in
      let same = ap n.place d.1.source in omega (arith, lt, same)

  follow_same : (f g : Held → Origin) (s : Step) → ((h : Held) → s ≡ step.Goes h → f h ≡ g h) → follow f s ≡ follow g s
  follow_same f g (step.Ends o) same = refl
  follow_same f g (step.Goes h) same = same h refl

  pub origin_enough : (k j : ℕ) (h : Held) → n.place h.instance < k → n.place h.instance < j → origin_within k w h ≡ origin_within j w h
  unfolding origin_within
  origin_enough zero j h a b = absurd (omega (arith, a))
  origin_enough (suc k) zero h a b = absurd (omega (arith, b))
  origin_enough (suc k) (suc j) h a b =
      follow_same (origin_within k w) (origin_within j w) (step_from w h) (λ g e. let lt = goes_down h g e in origin_enough k j g (omega (arith, lt, a)) (omega (arith, lt, b)))

  -- the origin is that of what is one wire further on
  pub origin_step : (h : Held) → origin w h ≡ follow (origin w) (step_from w h)
  unfolding origin_within
  origin_step h =
      follow_same (origin_within (length w.shapes) w) (origin w) (step_from w h)
      (λ g e. let lt = goes_down h g e in let le = n.within h.instance in origin_enough (length w.shapes) (suc (length w.shapes)) g (omega (arith, lt, le)) (omega (arith, lt, le)))
