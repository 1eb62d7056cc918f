use Rattle.std.proofs.Common.{map, take}
use Rattle.warg_record.specs.View.{envelope_view}
use Rattle.warg_log.specs.Follows.{Follows}
use Rattle.warg_log.specs.Lawful.{IsLawful}
use Rattle.warg_log.specs.Rules.{any_signature}
use Rattle.warg_log.proofs.state.LogState.replay.Given as goal

abbrev pub invariant-loop-env : goal.invariant-loop-env
invariant-loop-env g l = record {
  lawful : IsLawful g.E.LogEntry.kind any_signature (map (envelope_view g.E.LogEntry.plain) (take l.env-index l.envs));
  follows : Follows {E = g.row.E.Denot} g.E.LogEntry.kind l.state (map (envelope_view g.E.LogEntry.plain) (take l.env-index l.envs));
}
