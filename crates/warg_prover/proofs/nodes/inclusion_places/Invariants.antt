use Rattle.std.proofs.Common.{◌≡◌, ◌<◌, take}
use Rattle.std.specs.List.{All, flat_map}
use Rattle.warg_prover.specs.Asked.{inclusion_needs}
use Rattle.warg_prover.specs.Places.{IsPlaceOf}
use Rattle.warg_prover.proofs.nodes.inclusion_places.Given as goal

abbrev pub invariant-loop-index : goal.invariant-loop-index
invariant-loop-index l = record {
  places : l.places.items ≡ flat_map (inclusion_needs l.count) (take l.index-index l.indices);
  whole : All (IsPlaceOf l.count) l.places.items;
  below : All (λ index. index < l.count) (take l.index-index l.indices);
}
