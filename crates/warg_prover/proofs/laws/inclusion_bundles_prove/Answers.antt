use Rattle.warg_prover.proofs.Proving.{inclusion_proved}
use Rattle.warg_prover.proofs.laws.inclusion_bundles_prove.Goals as goal

pub returns : goal.returns
returns c = inclusion_proved c.listed_inclusion.ensures
