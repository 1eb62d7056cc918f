use Rattle.std.proofs.Common.{◌≡◌, List, Some, rules, arith, ap, ◌∙◌}
use Rattle.warg_proof.specs.declared.node.Node.{Node}
use Rattle.warg_proof.specs.LogProofs.{LogProofs, asked_consistency, AsksConsistency}
use Rattle.warg_proof.specs.Judging.{roots_joining}
use Rattle.warg_proof.proofs.Verdicts.{consistency_of, rebuilt_consistency}
use Rattle.warg_proof.proofs.log_bundle.LogBundle.judge_consistency.Goals as goal

pub returns-clause-verdict : goal.returns-clause-verdict
returns-clause-verdict c =
    let asked : asked_consistency c.args.self.now ≡ Some (consistency_of c.args.from c.args.to) = search rules in
    let asks : AsksConsistency c.args.self.now c.args.from c.args.to = record { asked = asked; positive = omega arith; ordered = omega arith } in
    let nodes = c.rebuilt_roots.ensures ∙ ap (λ (ns : List Node). roots_joining ns 64 0 c.args.from c.args.to) c.as_slice.ensures.value ∙ ap (λ (p : LogProofs). roots_joining p.nodes 64 0 c.args.from c.args.to) c.self.view_is in
    c.judge_roots.ensures ∙ rebuilt_consistency c.args.self.now c.args.from c.args.to c.args.from_root.now c.args.to_root.now c.rebuilt_roots.result asks (omega arith) nodes
