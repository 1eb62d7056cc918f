use Rattle.std.proofs.Common.{◌∙◌, get_or, sym}
use Rattle.compose_agree.specs.Order.{has}
use Rattle.compose_agree.proofs.TurnLaws.{prefix_more}
use Rattle.compose_agree.proofs.turns.first_open.Goals as goal

pub loop-place-preserved : goal.loop-place-preserved
loop-place-preserved c = λ done is before.
    let number = get_or c.args.numbers.now c.loop-place.place 0 in
    prefix_more (has done) c.args.numbers.now c.loop-place.place 0 c.loop-place-test.true (c.loop-place.invariant done is before) (sym (is number) ∙ sym c.contains.ensures ∙ c.if-not-contains.false)
