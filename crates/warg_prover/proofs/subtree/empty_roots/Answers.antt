use Rattle.std.proofs.Common.{◌≡◌, List, ℕ, [], ◌∷◌, ◌++◌, ◌+◌, ◌<◌, length, get_or, replicate, ap, ◌∙◌, arith}
use Rattle.std.proofs.lemmas.List.{length-append, get_or_default}
use Rattle.warg_proof.specs.Merkle.{branch_hash}
use Rattle.warg_prover.proofs.Marks.{root_more, first_empty}
use Rattle.warg_prover.proofs.subtree.empty_roots.Goals as goal

pub loop-height-init : goal.loop-height-init
loop-height-init c =
    let items : c.push.new.self.items ≡ replicate 32 0 ∷ [] = c.in_ok-push.ensures.items ∙ ap (λ (xs : List (List ℕ)). xs ++ replicate 32 0 ∷ []) c.in_ok-roots.ensures.items in
    record {
      count = ap length items;
      each = λ h le. ap (λ (xs : List (List ℕ)). get_or xs h []) items ∙ first_empty h le;
    }

pub loop-height-preserved : goal.loop-height-preserved
loop-height-preserved c =
    let roots = c.loop-height.roots.items in
    let height = c.loop-height.height in
    let items = c.in_ok-push-2.ensures.items in
    let there : height < length roots = omega (arith, c.loop-height.invariant.count) in
    let is : c.branch_hash.result ≡ branch_hash (get_or roots height []) (get_or roots height []) = c.branch_hash.ensures ∙ ap (λ (r : List ℕ). branch_hash r r) (c.index.ensures ∙ get_or_default roots height c.index.result.now [] there) in
    record {
      count = ap length items ∙ length-append roots (c.branch_hash.result ∷ []) ∙ ap (λ (n : ℕ). n + 1) c.loop-height.invariant.count;
      each = λ h le. ap (λ (xs : List (List ℕ)). get_or xs h []) items ∙ root_more roots c.branch_hash.result height c.loop-height.invariant.count c.loop-height.invariant.each is h le;
    }
