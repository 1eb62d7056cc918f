use Rattle.warg_compose.proofs.LinkLaws.{linked}
use Rattle.warg_compose.proofs.laws.linkable_plans_are_linked.Goals as goal

pub returns : goal.returns
returns c = linked c.what_can_be_encoded_is_refused_for_its_numbers.ensures c.one_shape.ensures
