use Rattle.std.proofs.Common.{◌++◌, ◌∷◌, [], List, ℕ, map, take, sym, ap, ◌∙◌}
use Rattle.std.proofs.lemmas.List.{map_more}
use Rattle.warg_proof.specs.Leaves.{entry_hash}
use Rattle.warg_proof.proofs.root.leaf_hashes.Goals as goal

pub loop-leaf-preserved : goal.loop-leaf-preserved
loop-leaf-preserved c =
    c.in_ok-push.ensures.items
    ∙ ap (λ (hs : List (List ℕ)). hs ++ c.hash.result ∷ []) c.loop-leaf.invariant
    ∙ ap (λ (h : List ℕ). map entry_hash (take c.loop-leaf.leaf-index c.args.leaves.now) ++ h ∷ []) (c.hash.ensures ∙ ap entry_hash c.leaf-item.is)
    ∙ sym (map_more entry_hash c.args.leaves.now c.loop-leaf.leaf-index c.leaf-item.result c.loop-leaf-test.true)
