use Rattle.std.proofs.Common.{◌∙◌}
use Rattle.compose_left.specs.declared.spots.Spot.{Spot}
use Rattle.compose_left.specs.Origins.{is_exported_at}
use Rattle.compose_left.specs.Wired.{place_cmp}
use Rattle.compose_left.proofs.MapLaws.{gone_in, place_ties}
use Rattle.compose_left.proofs.places.given.Goals as goal

pub loop-spot-preserved : goal.loop-spot-preserved
loop-spot-preserved c = λ p.
    gone_in place_cmp (λ (x : Spot). x.what) (is_exported_at p.is_type p.path) p c.loop-spot.spots.items c.pop.new.self.items c.in-Some.spot
    (record { is_type = c.in-Some.spot.what.is_type; path = c.in_ok-within.field-0 }) c.loop-spot.found c.insert.new.self c.in-Some.ensures.items
    (place_ties c.in-Some.spot _ p (λ i. record { is_type = c.in-Some.spot.what.is_type; path = c.in_ok-within.ensures i })) (c.in_ok-insert.ensures.updates.0 p)
    ∙ c.loop-spot.invariant p
