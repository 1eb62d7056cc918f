use Rattle.std.proofs.Common.{◌≡◌, drop}
use Rattle.warg_info.specs.Faults.{ascends, are_above}
use Rattle.warg_info.proofs.replay.ascends.Given as goal

abbrev pub invariant-loop-record : goal.invariant-loop-record
invariant-loop-record l = are_above l.before (drop l.record-index l.published) ≡ ascends l.published
