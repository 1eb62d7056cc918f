use Rattle.std.proofs.Common.{◌≡◌, ◌++◌, drop}
use Rattle.comp_entity.specs.Views.{named_entities}
use Rattle.compose_left.specs.Spots.{spots_from}
use Rattle.compose_left.proofs.spots.spots.Given as goal

abbrev pub invariant-loop-number : goal.invariant-loop-number
invariant-loop-number l = l.found.items ++ spots_from l.number (named_entities (drop l.number l.entries)) ≡ spots_from 0 (named_entities l.entries)
