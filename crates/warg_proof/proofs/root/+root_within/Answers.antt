use Rattle.std.proofs.Common.{◌-◌, List, ℕ, take, arith, sym, ap, ◌∙◌}
use Rattle.warg_proof.specs.HashedTree.{hashed_within}
use Rattle.warg_proof.specs.Merkle.{branch_hash}
use Rattle.warg_proof.proofs.HashedLaws.{hashed_more, hashed_less}
use Rattle.warg_proof.proofs.root.+root_within.Goals as goal

pub returns-then-hashes-half : goal.returns-then-hashes-half
returns-then-hashes-half t c =
    c.root_within.ensures ∙ sym (hashed_less c.args.level c.half_of-half.result c.args.hashes.now (omega arith) c.half_of-half.ensures c.if-hashes-half.true)

pub returns : goal.returns
returns t c =
    let within : List (List ℕ) → List ℕ = hashed_within (c.args.level - 1) in
    c.branch_hash.ensures
    ∙ ap (λ (left : List ℕ). branch_hash left c.root_within-right.result) (c.root_within-left.ensures ∙ ap within c.split_at.ensures.front)
    ∙ ap (λ (right : List ℕ). branch_hash (within (take c.half_of-half.result c.args.hashes.now)) right) (c.root_within-right.ensures ∙ ap within c.split_at.ensures.back)
    ∙ sym (hashed_more c.args.level c.half_of-half.result c.args.hashes.now (omega arith) c.half_of-half.ensures (omega arith))
