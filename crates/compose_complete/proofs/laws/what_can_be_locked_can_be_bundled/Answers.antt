use Rattle.compose_complete.proofs.RefusedLaws.{bundled}
use Rattle.compose_complete.proofs.laws.what_can_be_locked_can_be_bundled.Goals as goal

pub returns : goal.returns
returns c = bundled
