use Rattle.compose_needs.proofs.SeenLaws.{holds_take}
use Rattle.compose_needs.proofs.tied.note_named.Goals as goal

pub loop-thing-preserved : goal.loop-thing-preserved
loop-thing-preserved c = λ s h.
    holds_take c.loop-thing.seen c.insert.new.self s c.args.named.now c.loop-thing.thing-index _ c.loop-thing-test.true (c.loop-thing.invariant s h) c.in_ok-insert.ensures.updates
