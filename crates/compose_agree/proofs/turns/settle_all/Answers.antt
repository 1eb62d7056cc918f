use Rattle.std.proofs.Common.{◌+◌, map, drop, subst}
use Rattle.compose_agree.specs.Order.{needs_of}
use Rattle.compose_agree.specs.Turns.{AreTurns, IsOpen, thing_of}
use Rattle.compose_agree.proofs.TurnLaws.{all_index, dropped_all, dropped_at}
use Rattle.compose_agree.proofs.turns.settle_all.Goals as goal

pub loop-waiter-preserved : goal.loop-waiter-preserved
loop-waiter-preserved c = λ done are opens.
    let cut = dropped_at c.args.waiters.now c.loop-waiter.waiter-index (record { thing = 0; place = 0 }) c.loop-waiter-test.true in
    c.in_ok-settle.ensures done (map thing_of (drop (c.loop-waiter.waiter-index + 1) c.args.waiters.now))
    (subst (λ xs. AreTurns (needs_of c.args.needs.now) done (map thing_of xs) c.loop-waiter.turns) cut (c.loop-waiter.invariant done are opens))
    (all_index (IsOpen (needs_of c.args.needs.now) done) c.args.waiters.now c.loop-waiter.waiter-index (record { thing = 0; place = 0 }) c.loop-waiter-test.true opens)

pub returns : goal.returns
returns c = λ done are opens.
    subst (λ xs. AreTurns (needs_of c.args.needs.now) done (map thing_of xs) c.loop-waiter.turns) (dropped_all c.args.waiters.now c.loop-waiter.waiter-index c.loop-waiter-test.false) (c.loop-waiter.invariant done are opens)
