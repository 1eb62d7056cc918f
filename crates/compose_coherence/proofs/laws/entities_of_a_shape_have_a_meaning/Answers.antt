use Rattle.compose_coherence.proofs.Whole.{have_meanings}
use Rattle.compose_coherence.proofs.laws.entities_of_a_shape_have_a_meaning.Goals as goal

pub returns : goal.returns
returns c = λ bytes parts has b s is. have_meanings s (c.each_name_stands_for_one_type.ensures bytes parts has b s is)
