use Rattle.comp_scope.proofs.BoundLaws.{shape_below}
use Rattle.comp_scope.proofs.laws.bounds_only_refuse.Goals as goal

pub returns : goal.returns
returns c = shape_below
