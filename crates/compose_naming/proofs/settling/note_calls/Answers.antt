use Rattle.compose_naming.proofs.NameLaws.{names_step}
use Rattle.compose_naming.proofs.settling.note_calls.Goals as goal

pub loop-thing-preserved : goal.loop-thing-preserved
loop-thing-preserved c = λ ws h.
    names_step c.note_call.new.names ws c.args.written c.args.things.now c.loop-thing.thing-index _
    c.loop-thing-test.true (c.in_ok-note_call.ensures _ (c.loop-thing.invariant ws h))
