use Rattle.warg_prover.proofs.needed.+push_needed.Given as goal

abbrev pub decreases-push_needed : goal.decreases-push_needed
decreases-push_needed l = l.level
