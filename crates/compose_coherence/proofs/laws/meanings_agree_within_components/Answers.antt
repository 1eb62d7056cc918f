use Rattle.compose_coherence.proofs.Agreeing.{agree_in_component}
use Rattle.compose_coherence.proofs.laws.meanings_agree_within_components.Goals as goal

pub returns : goal.returns
returns c = agree_in_component
