use Rattle.std.proofs.Common.{◌∙◌, ◌<◌, ◌≤◌, ap, arith, length, sym}
use Rattle.compose_needs.specs.Exports.{component_hides}
use Rattle.compose_encode.specs.Refusing.{hidden_in}
use Rattle.compose_encode.proofs.RefusingLaws.{there_is_none, there_is_one}
use Rattle.compose_encode.proofs.refusing.hidden_at.Goals as goal

pub returns-then-number-len : goal.returns-then-number-len
returns-then-number-len c =
    let k = c.args.composition.now in
    let past : length k.components.items ≤ c.args.number = omega arith in
    sym (there_is_none k c.args.number hidden_in past)

pub returns : goal.returns
returns c =
    let k = c.args.composition.now in
    let there : c.args.number < length k.components.items = omega arith in
    c.in_ok-found.ensures ∙ ap component_hides c.types.ensures.value
    ∙ sym (there_is_one k c.args.number c.index-component.result.now hidden_in there c.index-component.ensures)
