use Rattle.yaml_small.proofs.Reasons.{uncarried}
use Rattle.yaml_small.proofs.laws.not_carried_is_a_listed_form.Goals as goal

pub returns : goal.returns
returns c s e = uncarried s e
