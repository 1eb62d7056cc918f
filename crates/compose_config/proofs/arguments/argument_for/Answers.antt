use Rattle.std.proofs.Common.{ap, sym, ◌∙◌, option_map, bytes_eq}
use Rattle.compose_config.specs.View.{argument_of}
use Rattle.compose_config.specs.MapLaws.{lookup_mapped}
use Rattle.compose_config.proofs.arguments.argument_for.Goals as goal

pub returns : goal.returns
returns c =
    rw c.in_ok-arguments.was (ap (option_map argument_of) c.get.ensures.value ∙ sym (lookup_mapped argument_of (bytes_eq c.args.name.now) c.in_ok-arguments.field-0.now.entries))
