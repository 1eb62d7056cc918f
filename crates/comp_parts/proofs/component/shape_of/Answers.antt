use Rattle.std.proofs.Common.{◌∙◌, ap, sym, subst, Ok, Err}
use Rattle.std.proofs.lemmas.Result.{err_from_is_err_and}
use Rattle.comp_parts.proofs.ComponentLaws.{lies_at, no_shape, shape_then}
use Rattle.comp_entity.specs.Bounds.{TooBig, bounded}
use Rattle.comp_scope.specs.Closing.{closed}
use Rattle.comp_scope.specs.Shape.{as_shape}
use Rattle.comp_space.specs.Faults.{Fails}
use Rattle.comp_parts.proofs.component.shape_of.Goals as goal

pub returns-in_err-number-clause-found : goal.returns-in_err-number-clause-found
returns-in_err-number-clause-found c =
    let p = err_from_is_err_and c.from_residual.result c.from_residual.ensures.1 in
    rw (p.1, p.2) (λ parts h. no_shape c.in_err-number.field-0.0 parts (c.in_err-number.ensures.refused parts h))

pub returns-in_err-number-clause-first : goal.returns-in_err-number-clause-first
returns-in_err-number-clause-first c =
    let p = err_from_is_err_and c.from_residual.result c.from_residual.ensures.1 in
    rw (p.1, p.2) (λ parts h. c.in_err-number.ensures.first parts h)

pub shape_at-requires : goal.shape_at-requires
shape_at-requires c =
    let f = c.in_ok-number.ensures.found c.requires.0 c.requires.1 in
    (closed f.value, lies_at c.number_of.new.table c.in_ok-number.number c.requires.0 f.value f.given_is f.shown)

pub returns-in-Ok-clause-found : goal.returns-in-Ok-clause-found
returns-in-Ok-clause-found c = λ parts h.
    let f = c.in_ok-number.ensures.found parts h in
    let g = c.in-Ok.ensures (closed f.value) f.shown in
    shape_then parts f.value (Ok _) f.given_is (g.given_is ∙ ap Ok (sym g.shown))

pub returns-in-Err-TooBig-clause-found : goal.returns-in-Err-TooBig-clause-found
returns-in-Err-TooBig-clause-found c = λ parts h.
    let f = c.in_ok-number.ensures.found parts h in
    shape_then parts f.value (Err TooBig) f.given_is
    (subst (λ e. Fails e (as_shape bounded (closed f.value))) c.in-Err-TooBig.field-0-is (c.in-Err-TooBig.ensures (closed f.value) f.shown))
