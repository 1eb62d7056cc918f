use Rattle.yaml_small.specs.DepthLaws.{always_within}
use Rattle.yaml_small.proofs.laws.depth_is_bounded.Goals as goal

pub returns : goal.returns
returns c = λ text events s runs. always_within text events s runs
