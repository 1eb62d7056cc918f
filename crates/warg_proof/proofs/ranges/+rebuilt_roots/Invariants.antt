use Rattle.warg_proof.proofs.ranges.+rebuilt_roots.Given as goal

abbrev pub decreases-rebuilt_roots : goal.decreases-rebuilt_roots
decreases-rebuilt_roots l = l.level
