use Rattle.std.proofs.Common.{ap, sym, ◌∙◌, option_map}
use Rattle.compose_config.specs.View.{settings_of}
use Rattle.warg_plan.specs.FormView.{misfit_view}
use Rattle.warg_plan.specs.FormLaws.{none_misfits}
use Rattle.warg_plan.proofs.text.check_text.Goals as goal

pub returns-in-None-clause-ok : goal.returns-in-None-clause-ok
returns-in-None-clause-ok c = none_misfits (settings_of c.args.config.now) (sym c.misfit_of.ensures ∙ ap (option_map misfit_view) c.in-None.is)
