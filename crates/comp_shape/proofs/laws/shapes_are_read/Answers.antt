use Rattle.comp_shape.proofs.RefusalLaws.{only_memory}
use Rattle.comp_shape.proofs.laws.shapes_are_read.Goals as goal

pub returns : goal.returns
returns c = only_memory c.one_list_of_parts.ensures c.each_component_is_read.ensures
