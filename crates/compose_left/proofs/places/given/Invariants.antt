use Rattle.std.proofs.Common.{◌≡◌}
use Rattle.std.specs.Prelude.{find, vec_len, option_map}
use Rattle.std.specs.Option.{option_or}
use Rattle.std.specs.BTreeMap.{get}
use Rattle.compose_left.specs.declared.places.Place.{Place}
use Rattle.compose_left.specs.declared.spots.Spot.{Spot}
use Rattle.compose_left.specs.Origins.{is_exported_at}
use Rattle.compose_left.specs.Wired.{place_cmp}
use Rattle.compose_left.proofs.places.given.Given as goal

abbrev pub invariant-loop-spot : goal.invariant-loop-spot
invariant-loop-spot l =
    (p : Place) → option_or (option_map (λ (x : Spot). x.what) (find (is_exported_at p.is_type p.path) l.spots.items)) (get place_cmp l.found p)
    ≡ option_map (λ (x : Spot). x.what) (find (is_exported_at p.is_type p.path) l.fn.spots.items)

abbrev pub decreases-loop-spot : goal.decreases-loop-spot
decreases-loop-spot l = vec_len l.spots
