use Rattle.std.proofs.Common.{arith, ap, ◌∙◌}
use Rattle.warg_proof.specs.HashedTree.{hashed_within}
use Rattle.warg_proof.proofs.HashedLaws.{hashed-leaves}
use Rattle.warg_proof.proofs.root.log_root.Goals as goal

pub returns : goal.returns
returns c =
    c.from_digest.ensures ∙ c.hashed_root.ensures
    ∙ ap (hashed_within 64) (c.as_slice.ensures.value ∙ c.in_ok-hashes.ensures)
    ∙ hashed-leaves c.args.leaves.now (omega arith)
