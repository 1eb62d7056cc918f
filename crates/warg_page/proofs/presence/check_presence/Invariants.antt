use Rattle.std.proofs.Common.{◌≢◌, [], take}
use Rattle.std.specs.List.{All}
use Rattle.warg_info.specs.Info.{package_log}
use Rattle.warg_page.proofs.presence.check_presence.Given as goal

abbrev pub invariant-loop-info : goal.invariant-loop-info
invariant-loop-info l = All (λ info. package_log info ≢ []) (take l.info-index l.packages)
