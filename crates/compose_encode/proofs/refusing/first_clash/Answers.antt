use Rattle.std.proofs.Common.{◌∙◌, map, sym}
use Rattle.compose_check.specs.Composition.{composition_tree}
use Rattle.compose_order.specs.Known.{left_tree}
use Rattle.compose_encode.specs.Refusing.{clash_at}
use Rattle.compose_encode.proofs.RefusingLaws.{first_found, first_more}
use Rattle.compose_encode.proofs.refusing.first_clash.Goals as goal

pub returns-in-Some : goal.returns-in-Some
returns-in-Some c =
    let ls = map left_tree c.args.lefts.now in
    sym (first_found (clash_at (composition_tree c.args.composition.now) ls) c.args.numbers.now
    c.loop-number.number-index c.in-Some.name c.loop-number-test.true c.loop-number.invariant
    (sym (c.in_ok-name.ensures ls c.in_ok-names.ensures) ∙ c.in-Some.is))

pub loop-number-preserved : goal.loop-number-preserved
loop-number-preserved c =
    let ls = map left_tree c.args.lefts.now in
    first_more (clash_at (composition_tree c.args.composition.now) ls) c.args.numbers.now c.loop-number.number-index
    c.loop-number-test.true c.loop-number.invariant
    (sym (c.in_ok-name.ensures ls c.in_ok-names.ensures) ∙ c.in-None.is)
