use Rattle.compose_left.proofs.OriginLaws.{origin_step}
use Rattle.compose_left.proofs.laws.origins_pass_along_wires.Goals as goal

pub returns : goal.returns
returns c = origin_step
