use Rattle.std.proofs.Common.{List, ℕ, drop, map}
use Rattle.std.specs.List.{AllByRecursion}
use Rattle.compose_agree.specs.Order.{needs_of}
use Rattle.compose_agree.specs.Turns.{AreTurns, IsOpen, thing_of}
use Rattle.compose_agree.proofs.turns.settle_all.Given as goal

abbrev pub invariant-loop-waiter : goal.invariant-loop-waiter
invariant-loop-waiter l = (done : List ℕ) → AreTurns (needs_of l.needs) done (map thing_of l.waiters) l.fn.turns → AllByRecursion (IsOpen (needs_of l.needs) done) l.waiters → AreTurns (needs_of l.needs) done (map thing_of (drop l.waiter-index l.waiters)) l.turns
