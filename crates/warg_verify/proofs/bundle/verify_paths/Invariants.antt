use Rattle.std.proofs.Common.{◌<◌}
use Rattle.warg_verify.specs.Shown.{EachLeaf}
use Rattle.warg_verify.proofs.bundle.verify_paths.Given as goal

abbrev pub invariant-loop-at : goal.invariant-loop-at
invariant-loop-at g l =
    EachLeaf (λ k index leaf. k < l.at → g.B.PathBundle.Shows l.bundle l.checkpoint k index leaf) l.indices l.leafs
