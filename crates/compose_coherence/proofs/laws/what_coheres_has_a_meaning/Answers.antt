use Rattle.compose_coherence.proofs.Meanings.{has_meaning}
use Rattle.compose_coherence.proofs.laws.what_coheres_has_a_meaning.Goals as goal

pub returns : goal.returns
returns c = has_meaning
