use Rattle.comp_table.proofs.EntityEqualLaws.{equal_by_tree}
use Rattle.comp_table.proofs.laws.equal_entities_have_one_bare_tree.Goals as goal

pub returns : goal.returns
returns c = equal_by_tree
