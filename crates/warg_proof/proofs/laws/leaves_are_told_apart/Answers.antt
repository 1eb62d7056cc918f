use Rattle.warg_proof.proofs.LeafLaws.{same_entry, same_value}
use Rattle.warg_proof.proofs.laws.leaves_are_told_apart.Goals as goal

pub returns-clause-entries : goal.returns-clause-entries
returns-clause-entries c = same_entry

pub returns-clause-values : goal.returns-clause-values
returns-clause-values c = same_value
