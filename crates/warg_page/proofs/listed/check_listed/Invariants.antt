use Rattle.std.proofs.Common.{take}
use Rattle.std.specs.List.{All}
use Rattle.warg_page.proofs.EmptyLaws.{IsKept}
use Rattle.warg_page.proofs.listed.check_listed.Given as goal

abbrev pub invariant-loop-info : goal.invariant-loop-info
invariant-loop-info l = All (IsKept l.listed.entries) (take l.info-index l.packages)
