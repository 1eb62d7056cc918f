use Rattle.std.proofs.Common.{◌≡◌, ◌++◌, drop, take}
use Rattle.compose_needs.specs.Seen.{Holds, Things}
use Rattle.compose_needs.specs.Tied.{are_tied, named_in}
use Rattle.compose_needs.proofs.tied.are_tied.Given as goal

abbrev pub invariant-loop-place : goal.invariant-loop-place
invariant-loop-place l = record {
  seen : (s : Things) → Holds l.fn.seen s → Holds l.seen (s ++ named_in (take l.place-index l.places));
  tied : (s : Things) → Holds l.fn.seen s → are_tied (s ++ named_in (take l.place-index l.places)) (drop l.place-index l.places) ≡ are_tied s l.places;
}
