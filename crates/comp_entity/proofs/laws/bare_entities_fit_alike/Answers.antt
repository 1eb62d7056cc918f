use Rattle.comp_entity.specs.FitLaws.{bare_fits}
use Rattle.comp_entity.proofs.laws.bare_entities_fit_alike.Goals as goal

pub returns : goal.returns
returns c = bare_fits
