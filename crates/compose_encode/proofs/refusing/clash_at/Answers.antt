use Rattle.std.proofs.Common.{◌≡◌, ◌∙◌, ◌<◌, ◌≤◌, true, false, arith, length, sym}
use Rattle.std.specs.BTreeSet.{contains}
use Rattle.compose_check.specs.Composition.{component_tree}
use Rattle.compose_left.specs.Merged.{name_cmp}
use Rattle.compose_encode.specs.Refusing.{name_left}
use Rattle.compose_encode.proofs.RefusingLaws.{clash_is, there_is_none, there_is_one}
use Rattle.compose_encode.proofs.refusing.clash_at.Goals as goal

pub returns-then-number-len : goal.returns-then-number-len
returns-then-number-len c = λ ls h.
    let k = c.args.composition.now in
    let past : length k.components.items ≤ c.args.number = omega arith in
    sym (there_is_none k c.args.number (name_left ls) past)

pub returns-then-contains : goal.returns-then-contains
returns-then-contains c = λ ls h.
    let k = c.args.composition.now in
    let r = c.index-component.result.now in
    let there : c.args.number < length k.components.items = omega arith in
    let found : contains name_cmp c.args.names.now c.in_ok-name.name ≡ true = sym c.contains.ensures ∙ c.if-contains.true in
    sym (there_is_one k c.args.number r (name_left ls) there c.index-component.ensures
    ∙ clash_is ls (component_tree r) c.args.names.now c.in_ok-name.name true (c.in_ok-name.ensures ∙ c.name.ensures) h found)

pub returns-else-contains : goal.returns-else-contains
returns-else-contains c = λ ls h.
    let k = c.args.composition.now in
    let r = c.index-component.result.now in
    let there : c.args.number < length k.components.items = omega arith in
    let found : contains name_cmp c.args.names.now c.in_ok-name.name ≡ false = sym c.contains.ensures ∙ c.if-contains.false in
    sym (there_is_one k c.args.number r (name_left ls) there c.index-component.ensures
    ∙ clash_is ls (component_tree r) c.args.names.now c.in_ok-name.name false (c.in_ok-name.ensures ∙ c.name.ensures) h found)
