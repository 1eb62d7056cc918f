use Rattle.yaml_small.proofs.Outcomes.{emitted_or_refused}
use Rattle.yaml_small.proofs.laws.each_text_is_emitted_or_refused.Goals as goal

pub returns : goal.returns
returns c = λ text. emitted_or_refused text
