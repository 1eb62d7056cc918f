use Rattle.compose_left.proofs.OnceLaws.{once}
use Rattle.compose_left.proofs.laws.no_two_origins_have_one_number.Goals as goal

pub returns : goal.returns
returns c = once
