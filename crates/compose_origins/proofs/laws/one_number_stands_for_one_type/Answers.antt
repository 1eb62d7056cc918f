use Rattle.compose_origins.proofs.Whole.{one_type_each}
use Rattle.compose_origins.proofs.laws.one_number_stands_for_one_type.Goals as goal

pub returns : goal.returns
returns c = one_type_each c.origins_pass_along_wires.ensures c.a_change_carries_types_along.ensures
