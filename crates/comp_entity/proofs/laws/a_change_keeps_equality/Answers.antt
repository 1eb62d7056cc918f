use Rattle.comp_entity.specs.FitLaws.{entities_alike}
use Rattle.comp_entity.proofs.laws.a_change_keeps_equality.Goals as goal

pub returns : goal.returns
returns c = entities_alike
