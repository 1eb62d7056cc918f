use Rattle.std.proofs.Common.{◌++◌, ℕ, List, [], length}
use Rattle.compose_agree.specs.Order.{Takes, all_of, is_ready, needs_of}
use Rattle.compose_agree.specs.Turns.{AreTurns, left_of}
use Rattle.compose_agree.proofs.order.take_in_turn.Given as goal

abbrev pub invariant-loop-order : goal.invariant-loop-order
invariant-loop-order l = record {
  turns : AreTurns (needs_of l.needs) l.order.items [] l.turns;
  takes : (xs rest : List ℕ) → Takes (is_ready (needs_of l.needs)) l.order.items (left_of l.order.items (length (needs_of l.needs))) xs rest → Takes (is_ready (needs_of l.needs)) [] (all_of (needs_of l.needs)) (l.order.items ++ xs) rest;
}

abbrev pub decreases-loop-order : goal.decreases-loop-order
decreases-loop-order l = length (left_of l.order.items (length (needs_of l.needs)))
