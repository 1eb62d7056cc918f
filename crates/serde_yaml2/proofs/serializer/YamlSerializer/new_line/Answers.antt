use Rattle.std.proofs.Common.{◌∷◌, []}
use Rattle.std.proofs.lemmas.Result.{err_from_is_err_and}
use Rattle.yaml_text.specs.Texts.{indentation}
use Rattle.serde_yaml2.specs.Output.{output_of}
use Rattle.serde_yaml2.specs.PieceLaws.{pushes_first}
use Rattle.serde_yaml2.proofs.serializer.YamlSerializer.new_line.Goals as goal

pub returns-in_err-push : goal.returns-in_err-push
returns-in_err-push c =
    let p = err_from_is_err_and c.from_residual.result c.from_residual.ensures.1 in
    rw (p.1, p.2) (pushes_first c.in_err-push.field-0.0 (output_of c.args.self.now) (output_of c.push.new.self) (10 ∷ []) (indentation c.args.self.now.level.depth) c.in_err-push.ensures)
