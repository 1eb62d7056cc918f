use Rattle.compose_encode.proofs.ListLaws.{targets_more}
use Rattle.compose_encode.proofs.wires.wires_by_target.Goals as goal

pub loop-wire-preserved : goal.loop-wire-preserved
loop-wire-preserved c = targets_more c.loop-wire.groups c.add_wire.new.groups c.args.wires.now c.loop-wire.wire-index _ c.loop-wire-test.true c.loop-wire.invariant c.in_ok-add_wire.ensures.wires
