use Rattle.warg_prover.specs.Subtrees.{tree_of}
use Rattle.warg_prover.proofs.Trees.{IsOnWay}
use Rattle.warg_prover.proofs.subtree.siblings_beside.Given as goal

abbrev pub invariant-loop-at : goal.invariant-loop-at
invariant-loop-at l = IsOnWay l.way.items (tree_of l.at) (tree_of l.tree) l.key
