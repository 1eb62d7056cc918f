use Rattle.compose_origins.proofs.Merged.{union_coheres}
use Rattle.compose_origins.proofs.laws.what_merges_keeps_types.Goals as goal

pub returns : goal.returns
returns c = union_coheres
