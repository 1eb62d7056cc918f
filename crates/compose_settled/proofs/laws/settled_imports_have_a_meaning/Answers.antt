use Rattle.compose_settled.proofs.Lefts.{have_meanings}
use Rattle.compose_settled.proofs.laws.settled_imports_have_a_meaning.Goals as goal

pub returns : goal.returns
returns c = λ w one. have_meanings c.what_coheres_has_a_meaning.ensures w (c.settled_imports_cohere.ensures w one)
