use Rattle.warg_config.proofs.PathLaws.{relative_leads}
use Rattle.warg_config.proofs.laws.a_relative_path_leads_to_its_place.Goals as goal

pub returns : goal.returns
returns c = relative_leads
