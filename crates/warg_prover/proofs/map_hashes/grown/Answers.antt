use Rattle.std.proofs.Common.{◌<◌, [], length, sym, ap, ◌∙◌, arith}
use Rattle.std.proofs.lemmas.Bool.{eqb-true}
use Rattle.warg_proof.specs.MapTree.{subtree_root}
use Rattle.std.proofs.lemmas.List.{get_or_default}
use Rattle.warg_prover.proofs.Trees.{no_entries}
use Rattle.warg_prover.proofs.Ways.{empty_subtree}
use Rattle.warg_prover.proofs.map_hashes.grown.Goals as goal

pub returns-then-is_empty-clause-root : goal.returns-then-is_empty-clause-root
returns-then-is_empty-clause-root c =
    let roots = c.in_ok-empty.empty.items in
    let there : 256 < length roots = omega (arith, c.in_ok-empty.ensures.count) in
    let none = eqb-true (length c.args.members.now) 0 (sym c.is_empty.ensures ∙ c.if-is_empty.true) in
    c.index.ensures ∙ get_or_default roots 256 c.index.result.now [] there ∙ c.in_ok-empty.ensures.each 256 (omega arith)
    ∙ sym (ap (subtree_root 256) (no_entries c.args.members.now none) ∙ empty_subtree 256)
