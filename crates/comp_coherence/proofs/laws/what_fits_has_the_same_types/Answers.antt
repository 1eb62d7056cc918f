use Rattle.comp_coherence.proofs.Fitting.{same_type}
use Rattle.comp_coherence.proofs.laws.what_fits_has_the_same_types.Goals as goal

pub returns : goal.returns
returns c = same_type
