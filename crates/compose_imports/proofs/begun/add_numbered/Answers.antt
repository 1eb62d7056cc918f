use Rattle.std.proofs.Common.{◌∙◌, ◌<◌, ◌≤◌, ◌++◌, length, sym, ap, subst, arith}
use Rattle.std.proofs.lemmas.List.{append-nil}
use Rattle.compose_types.specs.Scopes.{scopes}
use Rattle.compose_image.specs.Imports.{write_lefts}
use Rattle.compose_image.specs.Writable.{AreWritable}
use Rattle.compose_imports.specs.Begun.{HasWritten, component_left}
use Rattle.compose_imports.proofs.AddedLaws.{imports_none, imports_one}
use Rattle.compose_imports.proofs.LeftLaws.{left_alone, left_only, nothing_written}
use Rattle.compose_imports.proofs.RefusalLaws.{told}
use Rattle.compose_imports.proofs.begun.add_numbered.Goals as goal

pub returns-then-number-len-clause-next : goal.returns-then-number-len-clause-next
returns-then-number-len-clause-next c =
    let k = c.args.composition.now in
    let past : length k.components.items ≤ c.args.number = omega arith in
    ap (λ ls. write_lefts ls (scopes c.args.begun.now.state)) (imports_none k c.args.number past)
    ∙ nothing_written (scopes c.args.begun.now.state)

pub returns-then-number-len-clause-written : goal.returns-then-number-len-clause-written
returns-then-number-len-clause-written c = λ ls h.
    let k = c.args.composition.now in
    let past : length k.components.items ≤ c.args.number = omega arith in
    subst (HasWritten c.args.begun.now) (sym (ap (λ xs. ls ++ xs) (imports_none k c.args.number past) ∙ append-nil ls)) h

pub add_component-requires : goal.add_component-requires
add_component-requires c =
    let k = c.args.composition.now in
    let there : c.args.number < length k.components.items = omega arith in
    let one = imports_one k c.args.number c.index-component.result.now there c.index-component.ensures in
    (subst (λ ls. AreWritable ls (scopes c.args.begun.now.state)) one c.requires).0

pub returns-in_err-add_component-clause-among : goal.returns-in_err-add_component-clause-among
returns-in_err-add_component-clause-among c = λ n next e is.
    let k = c.args.composition.now in
    let there : c.args.number < length k.components.items = omega arith in
    let one = imports_one k c.args.number c.index-component.result.now there c.index-component.ensures in
    let ms = scopes c.args.begun.now.state in
    c.in_err-add_component.ensures.among n next (told c.from_residual.result _ n c.from_residual.ensures.1 e)
    (left_only (component_left c.index-component.result.now.now) ms next (ap (λ ls. write_lefts ls ms) (sym one) ∙ is))

pub returns-clause-next : goal.returns-clause-next
returns-clause-next c =
    let k = c.args.composition.now in
    let there : c.args.number < length k.components.items = omega arith in
    let one = imports_one k c.args.number c.index-component.result.now there c.index-component.ensures in
    ap (λ ls. write_lefts ls (scopes c.args.begun.now.state)) one
    ∙ left_alone (component_left c.index-component.result.now.now) (scopes c.args.begun.now.state) _
    c.in_ok-add_component.ensures.next

pub returns-clause-written : goal.returns-clause-written
returns-clause-written c = λ ls h.
    let k = c.args.composition.now in
    let there : c.args.number < length k.components.items = omega arith in
    let one = imports_one k c.args.number c.index-component.result.now there c.index-component.ensures in
    subst (HasWritten c.add_component.new.begun) (ap (λ xs. ls ++ xs) (sym one))
    (c.in_ok-add_component.ensures.written ls h)
