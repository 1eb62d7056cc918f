use Rattle.warg_fetch.specs.WriteLaws.{knows_after}
use Rattle.warg_fetch.proofs.laws.what_is_kept_is_known.Goals as goal

pub returns : goal.returns
returns c = knows_after
