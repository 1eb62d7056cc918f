use Rattle.comp_coherence.proofs.Changes.{carried_along}
use Rattle.comp_coherence.proofs.laws.a_change_carries_types_along.Goals as goal

pub returns : goal.returns
returns c = carried_along
