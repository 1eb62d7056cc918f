use Rattle.std.proofs.lemmas.Result.{err_from_is_err_and}
use Rattle.yaml_small.specs.Trees.{depth}
use Rattle.yaml_text.specs.Written.{new_line, tree_of, written}
use Rattle.serde_yaml2.specs.Output.{output_of}
use Rattle.serde_yaml2.specs.PieceLaws.{puts_front}
use Rattle.serde_yaml2.proofs.serializer.YamlSerializer.write_on_new_line.Goals as goal

pub returns-in_err-new_line : goal.returns-in_err-new_line
returns-in_err-new_line g c =
    let p = err_from_is_err_and c.from_residual.result c.from_residual.ensures.1 in
    let level = c.args.self.now.level.depth in
    let w = g.T.WriteYaml.written c.args.value.now in
    rw (p.1, p.2) (puts_front c.in_err-new_line.field-0.0 (output_of c.args.self.now) (output_of c.new_line.new.self) (new_line level) (written level w) (depth (tree_of w)) c.in_err-new_line.ensures)
