use Rattle.std.proofs.Common.{inl, inr, refl}
use Rattle.std.proofs.lemmas.Result.{err_from_is_err_and}
use Rattle.warg_plan.specs.View.{plan_view}
use Rattle.warg_client.proofs.client.Client.lock_component.Goals as goal

-- the plan is not found
pub returns-in_err-plan-clause-cause : goal.returns-in_err-plan-clause-cause
returns-in_err-plan-clause-cause g c =
    let q = err_from_is_err_and c.from_residual.result c.from_residual.ensures.1 in
    rw (q.1, q.2) (inl c.in_err-plan.ensures.refused)

-- the plan is found, and refused
pub returns-in_err-lock-clause-cause : goal.returns-in_err-lock-clause-cause
returns-in_err-lock-clause-cause g c =
    let q = err_from_is_err_and c.from_residual-in_err-lock.result c.from_residual-in_err-lock.ensures.1 in
    rw (q.1, q.2) (inr (record {
      entries = plan_view c.in_ok-plan.plan;
      planned = c.in_ok-plan.ensures.planned;
      refusal = c.in_err-lock.field-0.0;
      told = refl;
      cause = c.in_err-lock.ensures.fault;
    }))

pub returns-clause-locked : goal.returns-clause-locked
returns-clause-locked g c = (plan_view c.in_ok-plan.plan, c.in_ok-plan.ensures.planned, c.in_ok-lock.lock.left.items, c.in_ok-lock.ensures.locked)
