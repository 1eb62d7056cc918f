use Rattle.comp_space.specs.SpaceLaws.{space_is_there}
use Rattle.comp_instance.proofs.canons.add_built_in.Goals as goal

pub resource_of-requires : goal.resource_of-requires
resource_of-requires c = rw c.deref.ensures.value (space_is_there c.args.table.now c.args.space.now c.requires.0 c.requires.1).types
