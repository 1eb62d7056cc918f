use Rattle.comp_view.specs.KindLaws.{value_lies}
use Rattle.comp_view.proofs.laws.values_can_lie_in_memory.Goals as goal

pub returns : goal.returns
returns c = value_lies
