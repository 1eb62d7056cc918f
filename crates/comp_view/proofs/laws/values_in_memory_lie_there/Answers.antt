use Rattle.comp_view.specs.MemoryLaws.{value_in_memory}
use Rattle.comp_view.proofs.laws.values_in_memory_lie_there.Goals as goal

pub returns : goal.returns
returns c = value_in_memory
