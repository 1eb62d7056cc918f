use Rattle.std.proofs.Common.{length, sym, ◌∙◌}
use Rattle.warg_proof.proofs.HashedLaws.{hashed-root}
use Rattle.warg_proof.proofs.LogLaws.{root-at, root_is_hash}
use Rattle.warg_proof.proofs.laws.root_is_that_of_the_hashes.Goals as goal

pub returns-clause-hashes : goal.returns-clause-hashes
returns-clause-hashes c = λ entries few. hashed-root 64 entries ∙ sym (root-at 64 entries few)

pub returns-clause-digest : goal.returns-clause-digest
returns-clause-digest c = λ entries. root_is_hash (length entries) entries
