use Rattle.warg_compose.proofs.LinkLaws.{locked}
use Rattle.warg_compose.proofs.laws.lockable_plans_are_locked.Goals as goal

pub returns : goal.returns
returns c = locked c.what_can_be_encoded_is_refused_for_its_numbers.ensures c.one_shape.ensures
