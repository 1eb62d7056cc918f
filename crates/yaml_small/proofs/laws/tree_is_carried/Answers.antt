use Rattle.yaml_small.specs.CarriedLaws.{is_carried}
use Rattle.yaml_small.proofs.laws.tree_is_carried.Goals as goal

pub returns : goal.returns
returns c = λ text o z runs. is_carried text o z runs
