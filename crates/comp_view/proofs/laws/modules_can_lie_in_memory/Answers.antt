use Rattle.comp_view.specs.KindLaws.{module_lies}
use Rattle.comp_view.proofs.laws.modules_can_lie_in_memory.Goals as goal

pub returns : goal.returns
returns c = module_lies
