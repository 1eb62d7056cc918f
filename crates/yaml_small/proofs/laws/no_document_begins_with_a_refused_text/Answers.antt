use Rattle.yaml_small.proofs.Fronts.{refused_front}
use Rattle.yaml_small.proofs.laws.no_document_begins_with_a_refused_text.Goals as goal

pub returns : goal.returns
returns c = λ text rest fault o refuses final return carried. refused_front text rest fault o refuses final return carried
