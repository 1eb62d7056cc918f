use Rattle.warg_proof.proofs.LeafLaws.{entry_bytes, value_bytes}
use Rattle.warg_proof.proofs.laws.leaves_are_bytes.Goals as goal

pub returns-clause-entries : goal.returns-clause-entries
returns-clause-entries c = entry_bytes

pub returns-clause-values : goal.returns-clause-values
returns-clause-values c = value_bytes
