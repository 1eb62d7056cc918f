use Rattle.std.proofs.Common.{◌++◌, ap, ◌∙◌, arith}
use Rattle.compose_order.specs.Agreed.{number_of}
use Rattle.compose_order.specs.Known.{known_left}
use Rattle.compose_needs.specs.Lefts.{lefts_of}
use Rattle.compose_order.specs.Needs.{need_of}
use Rattle.compose_order.proofs.ListLaws.{given_all, given_more}
use Rattle.compose_order.proofs.needs.numbers_for.Goals as goal

pub loop-thing-preserved : goal.loop-thing-preserved
loop-thing-preserved c = λ w ls o k.
    given_more (number_of ls) (need_of (lefts_of w) (known_left c.args.known.now)) c.args.things.now c.loop-thing.thing-index _ c.loop-thing.numbers.items _ _ c.loop-thing-test.true
    (c.in_ok-push_number.ensures ∙ ap (λ ns. c.loop-thing.numbers.items ++ ns) (c.need.ensures w ls o k)) (c.loop-thing.invariant w ls o k)

pub returns : goal.returns
returns c = λ w ls o k.
    given_all (number_of ls) (need_of (lefts_of w) (known_left c.args.known.now)) c.args.things.now c.loop-thing.thing-index c.loop-thing.numbers.items _
    (let e = c.loop-thing-test.false in omega (arith, e)) (c.loop-thing.invariant w ls o k)
