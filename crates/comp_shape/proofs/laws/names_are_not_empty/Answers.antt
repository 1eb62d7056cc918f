use Rattle.comp_shape.proofs.NameLaws.{names_of_shape}
use Rattle.comp_shape.proofs.laws.names_are_not_empty.Goals as goal

pub returns : goal.returns
returns c = names_of_shape
