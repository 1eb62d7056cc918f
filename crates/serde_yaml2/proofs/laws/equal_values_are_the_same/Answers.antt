use Rattle.yaml_small.specs.View.{view}
use Rattle.yaml_read.specs.SameLaws.{same_decides}
use Rattle.yaml_read.specs.Wrapped.{wrapped}
use Rattle.serde_yaml2.proofs.laws.equal_values_are_the_same.Goals as goal

pub returns : goal.returns
returns c one other = same_decides (view (wrapped one)) (view (wrapped other))
