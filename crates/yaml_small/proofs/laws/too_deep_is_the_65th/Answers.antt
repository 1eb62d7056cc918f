use Rattle.yaml_small.proofs.DepthFaults.{deep_only_here}
use Rattle.yaml_small.proofs.laws.too_deep_is_the_65th.Goals as goal

pub returns : goal.returns
returns c = λ text events s runs deep. deep_only_here text events s runs deep
