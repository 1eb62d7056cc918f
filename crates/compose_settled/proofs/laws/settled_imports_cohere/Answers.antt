use Rattle.compose_settled.proofs.Lefts.{one_as_written}
use Rattle.compose_settled.proofs.laws.settled_imports_cohere.Goals as goal

pub returns : goal.returns
returns c = one_as_written c.a_change_carries_types_along.ensures
