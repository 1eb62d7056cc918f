use Rattle.std.proofs.Common.{◌++◌, take}
use Rattle.compose_needs.specs.Seen.{Holds, Things}
use Rattle.compose_needs.proofs.tied.note_named.Given as goal

abbrev pub invariant-loop-thing : goal.invariant-loop-thing
invariant-loop-thing l = (s : Things) → Holds l.fn.seen s → Holds l.seen (s ++ take l.thing-index l.named)
