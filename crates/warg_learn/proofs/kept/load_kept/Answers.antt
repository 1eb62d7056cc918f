use Rattle.std.proofs.Common.{inl}
use Rattle.std.proofs.lemmas.Result.{err_from_is_err_and}
use Rattle.warg_learn.proofs.RecalledSteps.{kept_fault}
use Rattle.warg_learn.proofs.kept.load_kept.Goals as goal

pub returns-in_err-registry-clause-fault : goal.returns-in_err-registry-clause-fault
returns-in_err-registry-clause-fault g c =
    let q = err_from_is_err_and c.from_residual.result c.from_residual.ensures.1 in
    rw (q.1, q.2) (λ known kr kn. kept_fault known c.args.name.now c.in_err-registry.field-0.0 _ _ (inl c.in_err-registry.ensures.fault))
