use Rattle.std.proofs.Common.{◌∙◌, arith}
use Rattle.warg_prover.proofs.Listed.{front_root}
use Rattle.warg_prover.proofs.hashes.LogHashes.root.Goals as goal

pub returns : goal.returns
returns c =
    let law = c.root_is_that_of_the_hashes.ensures.hashes in
    let cut = c.in_ok-hashes.ensures in
    (cut.0, λ entries are. c.from_digest.ensures ∙ c.hashed_root.ensures ∙ front_root law entries c.args.self.now c.in_ok-hashes.hashes.now c.args.count (omega arith) cut.1 are)
