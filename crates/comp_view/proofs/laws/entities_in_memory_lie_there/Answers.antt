use Rattle.comp_view.specs.MemoryLaws.{entity_in_memory}
use Rattle.comp_view.proofs.laws.entities_in_memory_lie_there.Goals as goal

pub returns : goal.returns
returns c = entity_in_memory
