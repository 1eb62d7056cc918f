use Rattle.comp_table.proofs.ChangeLaws.{entity_changed}
use Rattle.comp_table.proofs.laws.changed_entities_have_changed_trees.Goals as goal

pub returns : goal.returns
returns c = entity_changed
