use Rattle.std.proofs.Common.{◌∷◌, [], List, ℕ, ap, ◌∙◌, arith}
use Rattle.warg_proof.specs.HashedTree.{hashed_root}
use Rattle.warg_proof.specs.Merkle.{leaf_hash}
use Rattle.uses_registry.proofs.proof.root_of_two.Goals as goal

pub returns : goal.returns
returns c =
    let first = c.args.first.now in
    let second = c.args.second.now in
    c.from_digest.ensures ∙ c.hashed_root.ensures
    ∙ ap (λ (h : List ℕ). hashed_root (h ∷ c.leaf_hash-2.result ∷ [])) c.leaf_hash.ensures
    ∙ ap (λ (h : List ℕ). hashed_root (leaf_hash first ∷ h ∷ [])) c.leaf_hash-2.ensures
    ∙ c.root_is_that_of_the_hashes.ensures.hashes (first ∷ second ∷ []) (omega arith)
