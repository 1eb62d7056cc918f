use Rattle.yaml_completion.proofs.Completes.{completed}
use Rattle.yaml_completion.proofs.laws.each_event_can_be_completed.Goals as goal

pub returns : goal.returns
returns c = λ text events s runs. completed text events s runs
