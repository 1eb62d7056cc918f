use Rattle.warg_prover.proofs.subtree.+grow.Given as goal

abbrev pub decreases-grow : goal.decreases-grow
decreases-grow l = l.height
