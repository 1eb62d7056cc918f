use Rattle.yaml_small.proofs.Outcomes.{not_carried_refused}
use Rattle.yaml_small.proofs.laws.not_carried_is_refused.Goals as goal

pub returns : goal.returns
returns c = λ text none. not_carried_refused text none
