use Rattle.warg_proof.proofs.ranges.+hash_of.Given as goal

abbrev pub decreases-hash_of : goal.decreases-hash_of
decreases-hash_of l = l.level
