use Rattle.std.proofs.Common.{ap, sym, ◌∙◌, option_map}
use Rattle.compose_config.specs.View.{instance_of}
use Rattle.compose_config.specs.MapLaws.{instance_is}
use Rattle.compose_config.proofs.config.Config.instantiation.Goals as goal

pub returns : goal.returns
returns c = ap (option_map instance_of) c.get.ensures.value ∙ sym (instance_is instance_of c.args.self.now.instantiations.entries c.args.name.now)
