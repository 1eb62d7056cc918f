use Rattle.yaml_small.specs.LiveLaws.{stream_end}
use Rattle.yaml_small.proofs.laws.end_is_last.Goals as goal

pub returns : goal.returns
returns c = λ s m e. stream_end s m e
