use Rattle.std.proofs.Common.{rules, arith, ◌≡◌, ◌<◌, ◌∙◌, get_or, length, sym, subst, take, true}
use Rattle.std.specs.List.{list_all}
use Rattle.compose_agree.specs.Order.{has, needs_at, needs_of}
use Rattle.compose_agree.specs.Turns.{IsOpenAt}
use Rattle.compose_agree.proofs.TurnLaws.{length_needs, needs_there, settles_waiting}
use Rattle.compose_agree.proofs.turns.settle.Goals as goal

pub returns-in_ok-add_waiter-in-Some-first_open : goal.returns-in_ok-add_waiter-in-Some-first_open
returns-in_ok-add_waiter-in-Some-first_open c = λ done apart are here.
    let many = length_needs c.args.needs.now in
    let there = here.there in
    let within : c.args.waiter.thing < length c.args.needs.now = omega (arith, many, there) in
    let is : c.in-Some.numbers.now ≡ get_or c.args.needs.now c.args.waiter.thing c.in-Some.numbers.now = search rules in
    let numbers : needs_at (needs_of c.args.needs.now) c.args.waiter.thing ≡ c.deref.result.now = needs_there c.args.needs.now c.args.waiter.thing c.in-Some.numbers.now within is ∙ sym c.deref.ensures.value in
    let before = subst (λ ns. list_all (has done) (take c.args.waiter.place ns) ≡ true) numbers here.before in
    let at = c.in-Some-first_open.ensures done are.taken before in
    settles_waiting (needs_of c.args.needs.now) done apart c.args.turns.now c.args.waiter are here c.add_waiter.new.waiting c.in-Some-first_open.open (subst (λ ns. IsOpenAt done ns c.in-Some-first_open.open) (sym numbers) at) c.in_ok-add_waiter-in-Some-first_open.ensures
