use Rattle.std.proofs.Common.{◌≡◌}
use Rattle.compose_types.specs.Sights.{sees}
use Rattle.compose_types.proofs.SightLaws.{from_there}
use Rattle.compose_types.proofs.sights.+seeing.Given as goal

abbrev pub invariant-entries_seen-loop-place : goal.invariant-entries_seen-loop-place
invariant-entries_seen-loop-place l = from_there (sees l.sight) l.entries l.place ≡ from_there (sees l.sight) l.entries 0
