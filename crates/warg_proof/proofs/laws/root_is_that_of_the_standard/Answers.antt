use Rattle.std.proofs.Common.{refl}
use Rattle.warg_proof.specs.LogTree.{root_within}
use Rattle.warg_proof.proofs.LogLaws.{root-split}
use Rattle.warg_proof.proofs.laws.root_is_that_of_the_standard.Goals as goal

pub returns-clause-none : goal.returns-clause-none
unfolding root_within
returns-clause-none c = refl

pub returns-clause-one : goal.returns-clause-one
unfolding root_within
returns-clause-one c entry = refl

pub returns-clause-more : goal.returns-clause-more
returns-clause-more c entries k lt le = root-split entries k lt le
