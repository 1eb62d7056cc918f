use Rattle.comp_table.proofs.SizeLaws.{entity_size}
use Rattle.comp_table.proofs.laws.trees_are_as_large.Goals as goal

pub returns : goal.returns
returns c = entity_size
