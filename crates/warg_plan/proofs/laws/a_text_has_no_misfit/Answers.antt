use Rattle.warg_plan.specs.FormLaws.{none_misfits, plan_text_fits}
use Rattle.warg_plan.proofs.laws.a_text_has_no_misfit.Goals as goal

pub returns : goal.returns
returns c = λ s. (none_misfits s, plan_text_fits s)
