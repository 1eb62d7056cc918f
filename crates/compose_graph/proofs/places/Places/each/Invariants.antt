use Rattle.std.proofs.Common.{◌≡◌, ℕ, List, map, take}
use Rattle.compose_graph.specs.Composed.{FindsPlaces}
use Rattle.compose_graph.specs.Wiring.{place_among}
use Rattle.compose_graph.proofs.places.Places.each.Given as goal

abbrev pub invariant-loop-id : goal.invariant-loop-id
invariant-loop-id l = (ids : List ℕ) → FindsPlaces l.self ids → l.places.items ≡ map (place_among ids) (take l.id-index l.of)
