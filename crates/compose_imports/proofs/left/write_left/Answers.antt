use Rattle.std.proofs.Common.{◌≤◌, ◌∙◌, [], ap, subst, sym}
use Rattle.comp_entity.specs.Views.{entity_tree}
use Rattle.compose_image.specs.Additions.{Gains}
use Rattle.compose_image.specs.Imports.{all_called}
use Rattle.compose_order.specs.Known.{left_tree}
use Rattle.compose_types.specs.Largest.{scopes_size}
use Rattle.compose_types.specs.Scopes.{outermost_scope, scopes}
use Rattle.compose_writing.specs.WriteEntities.{write_entity, write_import}
use Rattle.compose_imports.proofs.GrownLaws.{entity_refused, import_refused}
use Rattle.compose_imports.proofs.LeftLaws.{left_imported, left_written}
use Rattle.compose_imports.proofs.RefusalLaws.{told}
use Rattle.compose_imports.proofs.left.write_left.Goals as goal

pub returns-in_err-index-clause-too_large : goal.returns-in_err-index-clause-too_large
returns-in_err-index-clause-too_large c = λ n e.
    (c.in_err-index.ensures.too_large n (told c.from_residual-in_err-index.result _ n c.from_residual-in_err-index.ensures.1 e)).large

pub returns-in_err-ty-clause-among : goal.returns-in_err-ty-clause-among
returns-in_err-ty-clause-among c = λ n next e is.
    entity_refused c.what_is_written_only_grows.ensures.also c.what_is_written_only_grows.ensures.import n
    (left_tree c.args.left.now) (scopes c.args.state.now) next
    (λ x. c.in_err-ty.ensures.among n x (told c.from_residual.result _ n c.from_residual.ensures.1 e)) is

pub returns-in_err-index-clause-among : goal.returns-in_err-index-clause-among
returns-in_err-index-clause-among c = λ n next e is.
    let left = c.args.left.now in
    let mid = scopes c.described.new.state in
    let refused = (c.in_err-index.ensures.too_large n (told c.from_residual-in_err-index.result _ n c.from_residual-in_err-index.ensures.1 e)).among in
    import_refused c.what_is_written_only_grows.ensures.also n (left_tree left) (scopes c.args.state.now) mid next c.in_ok-ty.ty
    c.in_ok-ty.ensures.written
    (subst (λ name. n ≤ scopes_size (write_import name (entity_tree left.entity) c.in_ok-ty.ty mid)) c.as_str.ensures refused)
    is

pub returns-clause-written : goal.returns-clause-written
returns-clause-written c =
    let left = c.args.left.now in
    let place = c.next_place-place.result in
    let mid = scopes c.described.new.state in
    let import = scopes c.import.new.self in
    left_written (left_tree left) (scopes c.args.state.now) mid import (scopes c.note_calls.new.state) c.in_ok-ty.ty
    (outermost_scope c.described.new.state) place c.in_ok-ty.ensures.written c.in_ok-index.ensures.alone
    c.next_place-place.ensures
    (c.in_ok-index.ensures.written
    ∙ ap (λ name. write_import name (entity_tree left.entity) c.in_ok-ty.ty mid) c.as_str.ensures)
    (c.in_ok-note_calls.ensures.noted ∙ ap (λ calls. all_called place calls import) c.deref.ensures.value)

pub returns-clause-imported : goal.returns-clause-imported
returns-clause-imported c = λ m alone.
    let left = c.args.left.now in
    let e = entity_tree left.entity in
    let ty = c.in_ok-ty.ty in
    let place = c.next_place-place.result in
    let mid = scopes c.described.new.state in
    let import = scopes c.import.new.self in
    let calls = c.deref.result.now in
    left_imported m (outermost_scope c.described.new.state) e left.name ty mid import (scopes c.note_calls.new.state)
    c.in_ok-index.index
    (c.an_import_is_one_item.ensures.needs e m _ _ (ap (write_entity e) (sym alone) ∙ c.in_ok-ty.ensures.written))
    c.in_ok-index.ensures.alone (λ k. c.an_import_is_one_item.ensures.item left.name e ty k)
    (c.in_ok-index.ensures.written ∙ ap (λ name. write_import name e ty mid) c.as_str.ensures)
    (λ k is. subst (λ ms. Gains k ms []) (sym (c.in_ok-note_calls.ensures.noted ∙ ap (all_called place calls) is))
    (c.an_import_is_one_item.ensures.calls place calls k))
    c.in_ok-index.ensures.index
