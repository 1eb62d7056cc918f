use Rattle.comp_define.proofs.SettledLaws.{settled}
use Rattle.comp_define.proofs.laws.closed_scopes_are_settled.Goals as goal

pub returns : goal.returns
returns c = settled c.changed_entities_have_changed_trees.ensures c.trees_mention_as_entities.ensures c.one_entity.ensures
