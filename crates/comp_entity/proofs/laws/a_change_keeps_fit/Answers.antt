use Rattle.comp_entity.specs.FitLaws.{fits_alike}
use Rattle.comp_entity.proofs.laws.a_change_keeps_fit.Goals as goal

pub returns : goal.returns
returns c = fits_alike
