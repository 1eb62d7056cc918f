use Rattle.std.proofs.Common.{◌∙◌, sym}
use Rattle.compose_check.specs.Composition.{composition_tree}
use Rattle.compose_encode.specs.Refusing.{hidden_at}
use Rattle.compose_encode.proofs.RefusingLaws.{first_found, first_more}
use Rattle.compose_encode.proofs.refusing.first_hidden.Goals as goal

pub returns-in-Some : goal.returns-in-Some
returns-in-Some c =
    sym (first_found (hidden_at (composition_tree c.args.composition.now)) c.args.numbers.now c.loop-number.number-index
    c.in-Some.name c.loop-number-test.true c.loop-number.invariant (sym c.in_ok-name.ensures ∙ c.in-Some.is))

pub loop-number-preserved : goal.loop-number-preserved
loop-number-preserved c =
    first_more (hidden_at (composition_tree c.args.composition.now)) c.args.numbers.now c.loop-number.number-index
    c.loop-number-test.true c.loop-number.invariant (sym c.in_ok-name.ensures ∙ c.in-None.is)
