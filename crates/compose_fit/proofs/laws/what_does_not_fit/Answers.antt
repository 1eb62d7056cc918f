use Rattle.compose_fit.proofs.CauseLaws.{misfit_not}
use Rattle.compose_fit.proofs.laws.what_does_not_fit.Goals as goal

pub returns : goal.returns
returns c = misfit_not
