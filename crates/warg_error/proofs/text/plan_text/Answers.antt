use Rattle.std.proofs.Common.{ap, ◌∙◌}
use Rattle.compose_config.specs.View.{settings_of}
use Rattle.warg_plan.specs.Form.{misfit_of}
use Rattle.warg_plan.specs.FormLaws.{plan_text_fits}
use Rattle.warg_error.proofs.TextLaws.{none_some, read_fault, read_short, settings_are}
use Rattle.warg_error.proofs.text.plan_text.Goals as goal

-- the text is not read
pub returns-in-Err-clause-fault : goal.returns-in-Err-clause-fault
returns-in-Err-clause-fault c = rw c.unread.ensures (read_fault c.in-Err.error c.args.text.now c.in-Err.ensures.exact)

pub returns-in-Err-clause-short : goal.returns-in-Err-clause-short
returns-in-Err-clause-short c = λ s reads. c.unread.ensures ∙ read_short c.in-Err.error s (c.in-Err.ensures.only s reads.holds)

-- no plan is made of it
pub returns-in-Err-check_text-clause-short : goal.returns-in-Err-check_text-clause-short
returns-in-Err-check_text-clause-short c = λ s reads.
    let same = settings_are s (settings_of c.in-Ok.config) (c.in-Ok.ensures.only s reads.holds) in
    absurd (none_some (misfit_of (settings_of c.in-Ok.config)) _ (ap misfit_of same ∙ plan_text_fits s reads.form) c.in-Err-check_text.ensures.refused)

-- a plan is made of it
pub returns-clause-one : goal.returns-clause-one
returns-clause-one c = λ s reads. settings_are s (settings_of c.in-Ok.config) (c.in-Ok.ensures.only s reads.holds)
