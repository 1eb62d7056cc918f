use Rattle.warg_proof.proofs.ranges.+rebuilt_root.Given as goal

abbrev pub decreases-rebuilt_root : goal.decreases-rebuilt_root
decreases-rebuilt_root l = l.level
