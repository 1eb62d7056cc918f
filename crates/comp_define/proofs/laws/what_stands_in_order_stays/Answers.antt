use Rattle.comp_define.proofs.KeptLaws.{stays}
use Rattle.comp_define.proofs.laws.what_stands_in_order_stays.Goals as goal

pub returns : goal.returns
returns c = stays c.changed_entities_have_changed_trees.ensures c.trees_mention_as_entities.ensures c.one_entity.ensures
