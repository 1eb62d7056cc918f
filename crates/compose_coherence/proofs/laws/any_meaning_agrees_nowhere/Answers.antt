use Rattle.compose_coherence.proofs.Agreeing.{agree_nowhere}
use Rattle.compose_coherence.proofs.laws.any_meaning_agrees_nowhere.Goals as goal

pub returns : goal.returns
returns c = agree_nowhere
