use Rattle.std.proofs.Common.{map, take}
use Rattle.warg_record.specs.Record.{Package}
use Rattle.warg_log.specs.Follows.{Follows}
use Rattle.warg_model.specs.Records.{records_of}
use Rattle.warg_model.specs.State.{logged_view}
use Rattle.warg_model.proofs.registry.ModelRegistry.state_of.Given as goal

abbrev pub invariant-loop-record : goal.invariant-loop-record
invariant-loop-record l = Follows Package l.state (records_of l.id (map logged_view (take l.record-index l.record-items)))
