use Rattle.std.proofs.Common.{◌+◌, ◌∷◌, []}
use Rattle.std.proofs.lemmas.Result.{err_from_is_err_and}
use Rattle.yaml_small.specs.Trees.{depth}
use Rattle.yaml_text.specs.Written.{tree_of}
use Rattle.serde_yaml2.specs.Output.{output_of, list_output, nested}
use Rattle.serde_yaml2.specs.PieceLaws.{puts_front}
use Rattle.serde_yaml2.proofs.collection.SequenceSerializer.element.Goals as goal

pub returns-in_err-push-clause-puts : goal.returns-in_err-push-clause-puts
returns-in_err-push-clause-puts g c =
    let p = err_from_is_err_and c.from_residual.result c.from_residual.ensures.1 in
    let w = g.T.WriteYaml.written c.args.value.now in
    rw (p.1, p.2)
    (puts_front c.in_err-push.field-0.0 (list_output c.args.self.now) (output_of c.push.new.self) (45 ∷ 32 ∷ []) (nested (list_output c.args.self.now).level w) (depth (tree_of w) + 1) c.in_err-push.ensures)
