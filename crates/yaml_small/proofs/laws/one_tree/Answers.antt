use Rattle.yaml_small.specs.UniqueLaws.{stream_one}
use Rattle.yaml_small.proofs.laws.one_tree.Goals as goal

pub returns : goal.returns
returns c = λ o p es fs e. stream_one o p es fs e
