use Rattle.compose_types.specs.Scopes.{scopes}
use Rattle.compose_imports.proofs.LeftLaws.{call_more, none_called}
use Rattle.compose_imports.proofs.calls.note_calls.Goals as goal

pub loop-call-init : goal.loop-call-init
loop-call-init c = none_called c.args.index (scopes c.args.state.now)

pub loop-call-preserved : goal.loop-call-preserved
loop-call-preserved c =
    call_more c.args.index c.args.calls.now c.loop-call.call-index c.call-item.result (scopes c.args.state.now)
    (scopes c.loop-call.state) (scopes c.note_call.new.state) c.loop-call-test.true c.call-item.is
    c.loop-call.invariant c.in_ok-note_call.ensures.noted
