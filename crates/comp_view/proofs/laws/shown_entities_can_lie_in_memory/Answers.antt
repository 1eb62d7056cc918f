use Rattle.comp_view.specs.KindLaws.{entity_lies}
use Rattle.comp_view.proofs.laws.shown_entities_can_lie_in_memory.Goals as goal

pub returns : goal.returns
returns c = entity_lies
