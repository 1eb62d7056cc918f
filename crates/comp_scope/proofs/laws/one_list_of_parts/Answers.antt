use Rattle.comp_scope.proofs.PartLaws.{one_list}
use Rattle.comp_scope.proofs.laws.one_list_of_parts.Goals as goal

pub returns : goal.returns
returns c = one_list c.one_reading.ensures
