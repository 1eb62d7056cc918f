use Rattle.comp_define.proofs.NumberLaws.{forgotten}
use Rattle.comp_define.proofs.laws.closing_forgets_numbers.Goals as goal

pub returns : goal.returns
returns c = λ f g one each. forgotten f g one each c.changed_entities_have_changed_trees.ensures c.trees_mention_as_entities.ensures c.one_entity.ensures
