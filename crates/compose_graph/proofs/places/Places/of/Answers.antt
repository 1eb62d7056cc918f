use Rattle.std.proofs.Common.{◌≡◌, ◌+◌, ◌-◌, ◌<◌, ◌≤◌, ℕ, arith, rules, subst, length, drop}
use Rattle.std.specs.Prelude.{unwrap_or}
use Rattle.std.specs.BTreeMap.{get}
use Rattle.std.specs.Ordering.{nat_cmp}
use Rattle.compose_graph.specs.Wiring.{place_among}
use Rattle.compose_graph.proofs.PlaceLaws.{place_step}
use Rattle.compose_graph.proofs.places.Places.of.Goals as goal

pub loop-place-preserved : goal.loop-place-preserved
loop-place-preserved c =
    let ids = c.args.ids.now in
    let p = c.loop-place.place - 1 in
    let some = c.loop-place-test.true in
    let most = c.loop-place.invariant.0 in
    let more : c.loop-place.place ≡ p + 1 = omega (arith, some) in
    let lt : p < length ids = omega (arith, some, most) in
    let below : p ≤ length ids = omega (arith, some, most) in
    let rest = subst (λ m. (q : ℕ) → unwrap_or (get nat_cmp c.loop-place.found q) (length ids) ≡ m + place_among (drop m ids) q) more c.loop-place.invariant.1 in
    (below, place_step ids p (length ids) _ c.loop-place.found c.insert.new.self lt (search rules) c.in_ok-insert.ensures.updates rest)
