use Rattle.comp_shape.proofs.RefusalLaws.{one}
use Rattle.comp_shape.proofs.laws.one_shape.Goals as goal

pub returns : goal.returns
returns c = one c.one_list_of_parts.ensures
