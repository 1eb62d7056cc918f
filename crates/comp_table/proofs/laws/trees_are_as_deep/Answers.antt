use Rattle.comp_table.proofs.DepthLaws.{value_is_as_deep}
use Rattle.comp_table.proofs.laws.trees_are_as_deep.Goals as goal

pub returns : goal.returns
returns c = value_is_as_deep
