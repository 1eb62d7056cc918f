use Rattle.warg_model.proofs.RegistryLaws.{texts-listed}
use Rattle.warg_model.proofs.laws.what_is_listed_is_accepted.Goals as goal

pub returns : goal.returns
returns c h before after listed same = texts-listed h before after listed same
