use Rattle.yaml_small.specs.UniqueLaws.{one_document}
use Rattle.yaml_small.proofs.laws.one_document.Goals as goal

pub returns : goal.returns
returns c = λ text o p c d. one_document text o p c d
