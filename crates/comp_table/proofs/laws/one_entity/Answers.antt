use Rattle.comp_table.proofs.PlainLaws.{one_entity}
use Rattle.comp_table.proofs.laws.one_entity.Goals as goal

pub returns : goal.returns
returns c = one_entity
