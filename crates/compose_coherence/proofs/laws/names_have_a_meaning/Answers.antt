use Rattle.compose_coherence.proofs.Agreeing.{meaning_agrees}
use Rattle.compose_coherence.proofs.laws.names_have_a_meaning.Goals as goal

pub returns : goal.returns
returns c = meaning_agrees
