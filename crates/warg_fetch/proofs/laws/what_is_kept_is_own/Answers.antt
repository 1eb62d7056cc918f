use Rattle.warg_fetch.specs.WriteLaws.{own_after}
use Rattle.warg_fetch.proofs.laws.what_is_kept_is_own.Goals as goal

pub returns : goal.returns
returns c = own_after
