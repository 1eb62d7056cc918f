use Rattle.std.proofs.lemmas.Result.{err_from_is_err_and}
use Rattle.serde_yaml2.specs.Output.{output_of}
use Rattle.serde_yaml2.specs.PieceLaws.{variant_puts}
use Rattle.serde_yaml2.proofs.serializer.YamlSerializer.write_newtype_variant.Goals as goal

pub returns-in_err-push-2 : goal.returns-in_err-push-2
returns-in_err-push-2 g c =
    let p = err_from_is_err_and c.from_residual-in_err-push-2.result c.from_residual-in_err-push-2.ensures.1 in
    rw (p.1, p.2)
    (variant_puts c.in_err-push-2.field-0.0 (output_of c.args.self.now) (output_of c.push.new.self) (output_of c.push-2.new.self) c.args.name.now (g.T.WriteYaml.written c.args.value.now) c.in_ok-push.ensures c.in_err-push-2.ensures)
