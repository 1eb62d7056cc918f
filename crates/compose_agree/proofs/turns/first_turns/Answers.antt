use Rattle.std.proofs.Common.{rules, ◌≡◌, ◌+◌, ◌-◌, ◌<◌, ◌∙◌, ℕ, None, [], ap, sym, subst, arith, false, length}
use Rattle.std.specs.List.{range_with_len}
use Rattle.std.specs.BTreeMap.{get}
use Rattle.std.specs.BTreeSet.{contains}
use Rattle.std.specs.Ordering.{nat_cmp}
use Rattle.compose_agree.specs.Order.{needs_of}
use Rattle.compose_agree.specs.Turns.{AreTurns, waiters_in}
use Rattle.compose_agree.proofs.TurnLaws.{length_needs, nothing_yet, range_next, starts_open}
use Rattle.compose_agree.proofs.turns.first_turns.Goals as goal

pub loop-thing-init : goal.loop-thing-init
loop-thing-init c =
    let none : (n : ℕ) → contains nat_cmp c.new.result n ≡ false = λ n. search rules in
    let idle : (n : ℕ) → contains nat_cmp c.new-2.result n ≡ false = λ n. search rules in
    let empty : (m : ℕ) → get nat_cmp c.new-3.result m ≡ None = λ m. search rules in
    let all : length c.args.needs.now ≡ length c.args.needs.now - 0 = omega arith in
    nothing_yet (needs_of c.args.needs.now) (record { taken = c.new.result; ready = c.new-2.result; waiting = c.new-3.result }) (length c.args.needs.now - 0) none idle (λ m. ap waiters_in (empty m)) (length_needs c.args.needs.now ∙ all)

pub loop-thing-preserved : goal.loop-thing-preserved
loop-thing-preserved c =
    c.in_ok-settle.ensures [] (range_with_len (c.loop-thing.thing + 1) (length c.args.needs.now - (c.loop-thing.thing + 1)))
    (subst (λ xs. AreTurns (needs_of c.args.needs.now) [] xs c.loop-thing.turns) (range_next c.loop-thing.thing (length c.args.needs.now) c.loop-thing-test.true) c.loop-thing.invariant)
    (starts_open (needs_of c.args.needs.now) c.loop-thing.thing (subst (λ k. c.loop-thing.thing < k) (sym (length_needs c.args.needs.now)) c.loop-thing-test.true))
