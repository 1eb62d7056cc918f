use Rattle.std.proofs.Common.{◌≡◌, ◌+◌, ◌≤◌, ℕ, length, drop}
use Rattle.std.specs.Prelude.{unwrap_or}
use Rattle.std.specs.BTreeMap.{get}
use Rattle.std.specs.Ordering.{nat_cmp}
use Rattle.compose_graph.specs.Wiring.{place_among}
use Rattle.compose_graph.proofs.places.Places.of.Given as goal

abbrev pub invariant-loop-place : goal.invariant-loop-place
invariant-loop-place l = (l.place ≤ length l.ids) × ((id : ℕ) → unwrap_or (get nat_cmp l.found id) (length l.ids) ≡ l.place + place_among (drop l.place l.ids) id)

abbrev pub decreases-loop-place : goal.decreases-loop-place
decreases-loop-place l = l.place
