use Rattle.std.proofs.Common.{◌∙◌, sym}
use Rattle.compose_agree.proofs.LeftLaws.{first_left_is, none_left_more}
use Rattle.compose_agree.proofs.order.first_left.Goals as goal

pub returns-then-not-contains : goal.returns-then-not-contains
returns-then-not-contains c = λ done is.
    first_left_is done c.args.end c.loop-number.number-counter c.loop-number-test.true (c.loop-number.invariant done is) (sym (is c.loop-number.number-counter) ∙ sym c.contains.ensures ∙ c.if-not-contains.true)

pub loop-number-preserved : goal.loop-number-preserved
loop-number-preserved c = λ done is.
    none_left_more done c.loop-number.number-counter (c.loop-number.invariant done is) (sym (is c.loop-number.number-counter) ∙ sym c.contains.ensures ∙ c.if-not-contains.false)
