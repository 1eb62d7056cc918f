use Rattle.warg_prover.proofs.Proving.{consistency_proved}
use Rattle.warg_prover.proofs.laws.consistency_bundles_prove.Goals as goal

pub returns : goal.returns
returns c = consistency_proved c.listed_consistency.ensures
