use Rattle.std.proofs.Common.{◌≡◌, drop}
use Rattle.std.specs.List.{list_all}
use Rattle.compose_needs.specs.Seen.{Holds, Things}
use Rattle.compose_needs.specs.Mentioned.{has}
use Rattle.compose_needs.proofs.tied.all_seen.Given as goal

abbrev pub invariant-loop-thing : goal.invariant-loop-thing
invariant-loop-thing l = (s : Things) → Holds l.seen s → list_all (has s) (drop l.thing-index l.asked) ≡ list_all (has s) l.asked
