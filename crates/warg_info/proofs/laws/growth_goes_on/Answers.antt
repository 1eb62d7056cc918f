use Rattle.warg_info.proofs.GrowsLaws.{grows-none, grows-append}
use Rattle.warg_info.proofs.laws.growth_goes_on.Goals as goal

pub returns : goal.returns
returns c = record { none = grows-none; more = grows-append }
