use Rattle.std.proofs.Common.{sym, ◌∙◌}
use Rattle.std.proofs.lemmas.Option.{get_or_from_slice_get}
use Rattle.warg_session.proofs.RecordingSteps.{may_be_lost, is_recorded}
use Rattle.warg_session.proofs.recording.RecordingLink.exchange.Goals as goal

pub returns-in-Err-clause-memory : goal.returns-in-Err-clause-memory
returns-in-Err-clause-memory g c = λ e. may_be_lost g.L.Link.Steps _ _ c.args.request.now (c.in-Err.ensures.memory (cc))

pub returns-in-Ok-try_clone-clause-replied : goal.returns-in-Ok-try_clone-clause-replied
returns-in-Ok-try_clone-clause-replied g c =
    let sent = c.in-Ok-send.ensures.replied in
    is_recorded g.L.Link.Steps _ _ c.index.result.now _ c.in-Ok.request sent.0 _ c.in-Ok.ensures (sym (get_or_from_slice_get c.send.new.self.exchanges.items c.in-Ok-send.place _ c.index.result.now sent.1) ∙ sym c.index.ensures)
    c.in-Ok-try_clone.ensures sent.2
