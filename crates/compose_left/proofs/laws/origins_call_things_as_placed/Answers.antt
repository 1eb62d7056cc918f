use Rattle.compose_left.proofs.PlacedLaws.{change_is}
use Rattle.compose_left.proofs.laws.origins_call_things_as_placed.Goals as goal

pub returns : goal.returns
returns c = λ o w at are n. change_is o w are n at
