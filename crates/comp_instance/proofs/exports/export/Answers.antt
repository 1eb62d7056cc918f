use Rattle.std.proofs.Common.{sym, subst, ◌∙◌}
use Rattle.comp_instance.specs.Exports.{exported_item, with_exported}
use Rattle.comp_declare.specs.Scopes.{ShowsScope}
use Rattle.comp_space.specs.Descriptions.{ShowsDescribed}
use Rattle.comp_space.specs.Faults.{Fails, Finds}
use Rattle.comp_space.specs.StandingLaws.{fails_bind, found_bind, on_err_always, passed_on}
use Rattle.comp_instance.proofs.ExportLaws.{export_free, export_taken, scope_kept}
use Rattle.comp_instance.proofs.exports.export.Goals as goal

pub returns-then-is_taken-clause-found : goal.returns-then-is_taken-clause-found
returns-then-is_taken-clause-found c = λ k shows.
    export_taken k c.args.name.now c.args.sort c.args.index c.args.ty
    (sym (c.is_taken.ensures c.args.table.now k.exports c.args.name.now shows.exports c.in_ok-lower.ensures) ∙ c.if-is_taken.true)

pub exported_item-requires : goal.exported_item-requires
exported_item-requires c = (c.requires.0.spaces, c.requires.1.spaces)

pub returns-in_err-described-clause-found : goal.returns-in_err-described-clause-found
returns-in_err-described-clause-found c = λ k shows.
    let free = sym (c.is_taken.ensures c.args.table.now k.exports c.args.name.now shows.exports c.in_ok-lower.ensures) ∙ c.if-is_taken.false in
    passed_on _ c.from_residual-in_err-described.result c.in_err-described.field-0.0 _ c.from_residual-in_err-described.ensures.1
    (subst (Fails c.in_err-described.field-0.0) (sym (export_free k c.args.name.now c.args.sort c.args.index c.args.ty free))
    (fails_bind (exported_item k.spaces c.args.sort c.args.index c.args.ty) (λ d. with_exported k c.args.name.now d) c.in_err-described.field-0.0 (c.in_err-described.ensures.found k.spaces shows.spaces)))

pub returns-in_err-described-clause-unchanged : goal.returns-in_err-described-clause-unchanged
returns-in_err-described-clause-unchanged c = λ k shows.
    on_err_always c.from_residual-in_err-described.result (scope_kept c.args.table.now c.exported_item.new.table c.exported_item.ensures.extends c.args.scope.now k shows)

pub add_export-requires : goal.add_export-requires
add_export-requires c = (c.in_ok-described.ensures.found c.requires.0.spaces c.requires.1.spaces).shown.standing.stands.there

pub returns-clause-found : goal.returns-clause-found
returns-clause-found c = λ k shows.
    let free = sym (c.is_taken.ensures c.args.table.now k.exports c.args.name.now shows.exports c.in_ok-lower.ensures) ∙ c.if-is_taken.false in
    let kept = scope_kept c.args.table.now c.exported_item.new.table c.exported_item.ensures.extends c.args.scope.now k shows in
    let f = c.in_ok-described.ensures.found k.spaces shows.spaces in
    subst (Finds (λ u. ShowsScope c.add_export.new.table c.add_export.new.scope) c.add_export.result) (sym (export_free k c.args.name.now c.args.sort c.args.index c.args.ty free))
    (found_bind (ShowsDescribed c.exported_item.new.table) (λ u. ShowsScope c.add_export.new.table c.add_export.new.scope) c.in_ok-described.described (exported_item k.spaces c.args.sort c.args.index c.args.ty) (λ d. with_exported k c.args.name.now d) c.add_export.result f
    (c.add_export.ensures.found k f.value kept f.shown free c.in_ok-lower.ensures))

pub returns-clause-unchanged : goal.returns-clause-unchanged
returns-clause-unchanged c = λ k shows.
    let free = sym (c.is_taken.ensures c.args.table.now k.exports c.args.name.now shows.exports c.in_ok-lower.ensures) ∙ c.if-is_taken.false in
    let kept = scope_kept c.args.table.now c.exported_item.new.table c.exported_item.ensures.extends c.args.scope.now k shows in
    let f = c.in_ok-described.ensures.found k.spaces shows.spaces in
    c.add_export.ensures.unchanged k f.value kept f.shown free c.in_ok-lower.ensures
