use Rattle.comp_entity.specs.NameLaws.{entity_twice}
use Rattle.comp_entity.proofs.laws.two_changes_are_one.Goals as goal

pub returns : goal.returns
returns c = entity_twice
