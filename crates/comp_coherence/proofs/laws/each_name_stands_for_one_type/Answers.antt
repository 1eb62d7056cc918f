use Rattle.comp_coherence.proofs.Components.{shape_coherent}
use Rattle.comp_coherence.proofs.laws.each_name_stands_for_one_type.Goals as goal

pub returns : goal.returns
returns c = shape_coherent
