use Rattle.std.proofs.Common.{ap, subst, sym, ◌∙◌, Ok}
use Rattle.warg_values.specs.Reading.{◌>>=◌}
use Rattle.comp_entity.specs.Bounds.{bounded}
use Rattle.comp_scope.specs.Descriptions.{described, new_brought, with_brought, with_import}
use Rattle.comp_scope.specs.Spaces.{if_new}
use Rattle.comp_space.specs.Faults.{Fails}
use Rattle.comp_space.specs.StandingLaws.{fails_bind, on_err_always, passed_on}
use Rattle.comp_declare.proofs.ScopeLaws.{import_is, scope_kept}
use Rattle.comp_declare.proofs.scope.Scope.import.Goals as goal

pub returns-in_err-described-clause-found : goal.returns-in_err-described-clause-found
returns-in_err-described-clause-found c = λ k shows.
    passed_on _ c.from_residual.result c.in_err-described.field-0.0 _ c.from_residual.ensures.1
    (subst (Fails c.in_err-described.field-0.0) (sym (import_is k c.args.name.now c.args.ty))
    (fails_bind (if_new c.args.name.now k.imports (described k.spaces (new_brought k.spaces) c.args.ty)) _ _
    (subst (λ x. Fails c.in_err-described.field-0.0 (if_new c.args.name.now k.imports (described k.spaces x c.args.ty))) (c.brought-new.ensures c.args.table.now k.spaces shows.spaces)
    (c.in_err-described.ensures.found k.spaces k.imports shows.spaces shows.imports))))

pub returns-in_err-described-clause-unchanged : goal.returns-in_err-described-clause-unchanged
returns-in_err-described-clause-unchanged c = λ k shows.
    on_err_always c.from_residual.result (scope_kept c.args.table.now c.named_description.new.table c.named_description.ensures.extends c.args.self.now k shows)

pub returns-in_err-push-clause-unchanged : goal.returns-in_err-push-clause-unchanged
returns-in_err-push-clause-unchanged c = λ k shows.
    let kept = scope_kept c.args.table.now c.named_description.new.table c.named_description.ensures.extends c.args.self.now k shows in
    on_err_always c.from_residual-in_err-push.result (record { spaces = kept.spaces; imports = c.in_err-push.ensures.unchanged c.named_description.new.table k.imports kept.imports; exports = kept.exports })

pub add_brought-requires : goal.add_brought-requires
add_brought-requires c =
    let f = c.in_ok-described.ensures.found c.requires.0.spaces c.requires.0.imports c.requires.1.spaces c.requires.1.imports in
    f.shown.described.standing.stands.there

pub returns-in-Ok-clause-found : goal.returns-in-Ok-clause-found
returns-in-Ok-clause-found c = λ k shows.
    let kept = scope_kept c.args.table.now c.named_description.new.table c.named_description.ensures.extends c.args.self.now k shows in
    let f = c.in_ok-described.ensures.found k.spaces k.imports shows.spaces shows.imports in
    let g = c.in-Ok.ensures.found k.spaces f.value kept.spaces f.shown.described in
    record {
      value = with_import k c.args.name.now f.value.standing g.value;
      given_is = import_is k c.args.name.now c.args.ty
          ∙ ap (λ x. if_new c.args.name.now k.imports (described k.spaces x c.args.ty) >>= λ d. with_brought bounded k.spaces d >>= λ spaces. Ok (with_import k c.args.name.now d.standing spaces)) (sym (c.brought-new.ensures c.args.table.now k.spaces shows.spaces))
          ∙ ap (λ r. r >>= λ d. with_brought bounded k.spaces d >>= λ spaces. Ok (with_import k c.args.name.now d.standing spaces)) f.given_is
          ∙ ap (λ r. r >>= λ spaces. Ok (with_import k c.args.name.now f.value.standing spaces)) g.given_is;
      shown = record {
        spaces = g.shown;
        imports = c.in_ok-push.ensures.pushed c.named_description.new.table k.imports (c.args.name.now, f.value.standing) kept.imports f.shown.is_new f.shown.name_is f.shown.stands;
        exports = kept.exports;
      };
    }

pub returns-in-Err-clause-found : goal.returns-in-Err-clause-found
returns-in-Err-clause-found c = λ k shows.
    let kept = scope_kept c.args.table.now c.named_description.new.table c.named_description.ensures.extends c.args.self.now k shows in
    let f = c.in_ok-described.ensures.found k.spaces k.imports shows.spaces shows.imports in
    let is = import_is k c.args.name.now c.args.ty
    ∙ ap (λ x. if_new c.args.name.now k.imports (described k.spaces x c.args.ty) >>= λ d. with_brought bounded k.spaces d >>= λ spaces. Ok (with_import k c.args.name.now d.standing spaces)) (sym (c.brought-new.ensures c.args.table.now k.spaces shows.spaces))
    ∙ ap (λ r. r >>= λ d. with_brought bounded k.spaces d >>= λ spaces. Ok (with_import k c.args.name.now d.standing spaces)) f.given_is in
    subst (Fails c.in-Err.error) (sym is)
    (fails_bind (with_brought bounded k.spaces f.value) _ c.in-Err.error (c.in-Err.ensures.found k.spaces f.value kept.spaces f.shown.described))

pub returns-in-Err-clause-unchanged : goal.returns-in-Err-clause-unchanged
returns-in-Err-clause-unchanged c = λ k shows.
    let kept = scope_kept c.args.table.now c.named_description.new.table c.named_description.ensures.extends c.args.self.now k shows in
    let f = c.in_ok-described.ensures.found k.spaces k.imports shows.spaces shows.imports in
    record {
      spaces = c.in-Err.ensures.unchanged k.spaces kept.spaces;
      imports = c.pop.ensures c.named_description.new.table k.imports (c.args.name.now, f.value.standing)
          (c.in_ok-push.ensures.pushed c.named_description.new.table k.imports (c.args.name.now, f.value.standing) kept.imports f.shown.is_new f.shown.name_is f.shown.stands);
      exports = kept.exports;
    }
