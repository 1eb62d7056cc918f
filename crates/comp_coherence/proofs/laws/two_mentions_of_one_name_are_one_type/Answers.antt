use Rattle.comp_coherence.proofs.Agreeing.{names_agree}
use Rattle.comp_coherence.proofs.Components.{shape_coherent}
use Rattle.comp_coherence.proofs.laws.two_mentions_of_one_name_are_one_type.Goals as goal

pub returns : goal.returns
returns c = λ bytes parts has b s is. names_agree s (shape_coherent bytes parts has b s is)
