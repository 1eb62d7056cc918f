use Rattle.compose_settled.proofs.Readable.{are_readable}
use Rattle.compose_settled.proofs.laws.settled_imports_are_readable.Goals as goal

pub returns : goal.returns
returns c = λ w one placed. are_readable c.what_coheres_has_a_meaning.ensures w (c.settled_imports_cohere.ensures w one) placed
