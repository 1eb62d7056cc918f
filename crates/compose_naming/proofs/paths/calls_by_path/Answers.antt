use Rattle.compose_naming.proofs.PathLaws.{calls_step}
use Rattle.compose_naming.proofs.paths.calls_by_path.Goals as goal

pub loop-call-preserved : goal.loop-call-preserved
loop-call-preserved c =
    calls_step c.add_call.new.paths c.args.calls.now c.loop-call.call-index c.call-item.result c.loop-call-test.true
    c.call-item.is (c.in_ok-add_call.ensures _ c.loop-call.invariant)
