use Rattle.std.proofs.Common.{◌≡◌, List, Some, rules, arith, ap, ◌∙◌}
use Rattle.warg_proof.specs.declared.node.Node.{Node}
use Rattle.warg_proof.specs.LogProofs.{LogProofs, asked_inclusion, AsksInclusion}
use Rattle.warg_proof.specs.Judging.{root_beside}
use Rattle.warg_proof.proofs.Verdicts.{inclusion_of, rebuilt_inclusion}
use Rattle.warg_proof.proofs.log_bundle.LogBundle.judge_inclusion.Goals as goal

pub returns-clause-verdict : goal.returns-clause-verdict
returns-clause-verdict c =
    let asked : asked_inclusion c.args.self.now c.args.at ≡ Some (inclusion_of c.args.length c.args.index) = search rules in
    let asks : AsksInclusion c.args.self.now c.args.at c.args.length c.args.index = record { asked = asked; below = omega arith } in
    let nodes = c.rebuilt_root.ensures ∙ ap (λ (ns : List Node). root_beside ns 64 0 c.args.length c.args.index c.args.entry.now) c.as_slice.ensures.value ∙ ap (λ (p : LogProofs). root_beside p.nodes 64 0 c.args.length c.args.index c.args.entry.now) c.self.view_is in
    c.judge_root.ensures ∙ rebuilt_inclusion c.args.self.now c.args.at c.args.length c.args.index c.args.entry.now c.args.root.now c.rebuilt_root.result asks (omega arith) nodes
