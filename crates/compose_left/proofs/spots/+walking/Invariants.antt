use Rattle.std.proofs.Common.{◌≡◌, ◌++◌, drop}
use Rattle.comp_entity.specs.Views.{entries_of, named_entities}
use Rattle.compose_left.specs.Spots.{inner_spots}
use Rattle.compose_left.proofs.spots.+walking.Given as goal

abbrev pub invariant-push_inner_spots-loop-export : goal.invariant-push_inner_spots-loop-export
invariant-push_inner_spots-loop-export l =
    l.spots.items ++ inner_spots l.number l.name l.path (entries_of (named_entities (drop l.export-index l.exports)))
    ≡ l.fn.spots.items ++ inner_spots l.number l.name l.path (entries_of (named_entities l.exports))
