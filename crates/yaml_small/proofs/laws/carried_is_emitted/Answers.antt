use Rattle.yaml_small.specs.EmittedTextLaws.{carried_emitted}
use Rattle.yaml_small.proofs.laws.carried_is_emitted.Goals as goal

pub returns : goal.returns
returns c = λ text o n carried. carried_emitted text o n carried
