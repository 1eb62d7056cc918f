use Rattle.compose_coherence.proofs.Agreeing.{agree_in_instance}
use Rattle.compose_coherence.proofs.laws.meanings_agree_within_instances.Goals as goal

pub returns : goal.returns
returns c = agree_in_instance
