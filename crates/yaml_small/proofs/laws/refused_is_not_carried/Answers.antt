use Rattle.yaml_small.specs.UniqueLaws.{refused_not_carried}
use Rattle.yaml_small.proofs.laws.refused_is_not_carried.Goals as goal

pub returns : goal.returns
returns c = λ text fault o refuses carried. refused_not_carried text fault o refuses carried
