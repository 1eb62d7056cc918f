use Rattle.std.proofs.Common.{rules}
use Rattle.compose_left.proofs.NumberLaws.{noted_step}
use Rattle.compose_left.proofs.numbering.note_all.Goals as goal

pub loop-held-preserved : goal.loop-held-preserved
loop-held-preserved c = λ h.
    noted_step c.loop-held.numbers c.insert.new.self c.args.numbers.now c.args.things.now c.loop-held.held-index c.args.number _ h (search rules) (search rules) c.in_ok-insert.ensures.updates (c.loop-held.invariant h)
