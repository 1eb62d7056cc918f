use Rattle.std.proofs.lemmas.Result.{err_from_is_err_and}
use Rattle.comp_parts.proofs.component.number_of.Goals as goal

pub returns-in_err-scope-clause-refused : goal.returns-in_err-scope-clause-refused
returns-in_err-scope-clause-refused c =
    let p = err_from_is_err_and c.from_residual.result c.from_residual.ensures.1 in
    rw (p.1, p.2) (λ parts h. c.in_err-scope.ensures.found parts h)

pub returns-in_err-scope-clause-first : goal.returns-in_err-scope-clause-first
returns-in_err-scope-clause-first c =
    let p = err_from_is_err_and c.from_residual.result c.from_residual.ensures.1 in
    rw (p.1, p.2) (λ parts h. c.in_err-scope.ensures.first parts h)

pub component-requires : goal.component-requires
component-requires c =
    let f = c.in_ok-scope.ensures.found c.requires.0 c.requires.1 in
    (f.value, f.shown)

pub returns-clause-found : goal.returns-clause-found
returns-clause-found c = λ parts h.
    let f = c.in_ok-scope.ensures.found parts h in
    record { value = f.value; given_is = f.given_is; shown = c.in_ok-number.ensures.number f.value f.shown }
