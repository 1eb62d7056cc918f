use Rattle.warg_prover.proofs.needed.+push_beside.Given as goal

abbrev pub decreases-push_beside : goal.decreases-push_beside
decreases-push_beside l = l.level
