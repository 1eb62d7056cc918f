use Rattle.comp_scope.proofs.PartLaws.{items_of, reads_items, expands_items}
use Rattle.comp_scope.proofs.laws.parts_are_items.Goals as goal

pub returns : goal.returns
returns c = λ bytes parts has. (items_of bytes parts has, reads_items bytes parts has, expands_items bytes parts has)
