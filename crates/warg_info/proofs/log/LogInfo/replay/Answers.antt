use Rattle.std.proofs.Common.{sym, ◌∙◌}
use Rattle.warg_info.specs.Info.{kept_of}
use Rattle.warg_info.proofs.GrowsLaws.{grows-whole}
use Rattle.warg_info.proofs.log.LogInfo.replay.Goals as goal

pub returns-clause-kept : goal.returns-clause-kept
returns-clause-kept g c =
    let view = g.E.LogEntry.plain in
    grows-whole g.E.LogEntry.kind (kept_of view c.new-log.result) c.args.published.now (kept_of view c.take.new.self)
    c.new-log.ensures.empty (sym c.ascends.ensures ∙ c.if-not-ascends.false) (c.in_ok-take.ensures.grows c.new-log.ensures.sound)
