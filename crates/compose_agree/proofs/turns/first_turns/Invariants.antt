use Rattle.std.proofs.Common.{◌-◌, [], length}
use Rattle.std.specs.List.{range_with_len}
use Rattle.compose_agree.specs.Order.{needs_of}
use Rattle.compose_agree.specs.Turns.{AreTurns}
use Rattle.compose_agree.proofs.turns.first_turns.Given as goal

abbrev pub invariant-loop-thing : goal.invariant-loop-thing
invariant-loop-thing l = AreTurns (needs_of l.needs) [] (range_with_len l.thing (length l.needs - l.thing)) l.turns
