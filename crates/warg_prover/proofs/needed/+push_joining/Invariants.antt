use Rattle.warg_prover.proofs.needed.+push_joining.Given as goal

abbrev pub decreases-push_joining : goal.decreases-push_joining
decreases-push_joining l = l.level
