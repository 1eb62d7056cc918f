use Rattle.warg_compose.proofs.PlanLaws.{is_wired}
use Rattle.warg_compose.proofs.laws.plans_over_components_are_wired.Goals as goal

pub returns : goal.returns
returns c = λ s f root es plan of. is_wired s f of root es plan
