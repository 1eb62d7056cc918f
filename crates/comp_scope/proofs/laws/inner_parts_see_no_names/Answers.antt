use Rattle.comp_scope.proofs.NameLaws.{part_beside}
use Rattle.comp_scope.proofs.laws.inner_parts_see_no_names.Goals as goal

pub returns : goal.returns
returns c = part_beside
