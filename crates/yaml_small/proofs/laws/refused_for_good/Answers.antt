use Rattle.yaml_small.proofs.Final.{refused_for_good}
use Rattle.yaml_small.proofs.laws.refused_for_good.Goals as goal

pub returns : goal.returns
returns c = λ text longer more fault o refuses final lines carried. refused_for_good text longer more fault o refuses final lines carried
