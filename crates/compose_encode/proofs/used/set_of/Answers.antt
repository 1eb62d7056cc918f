use Rattle.compose_encode.proofs.ListLaws.{set_more}
use Rattle.compose_encode.proofs.used.set_of.Goals as goal

pub loop-number-preserved : goal.loop-number-preserved
loop-number-preserved c = set_more c.loop-number.set c.insert.new.self c.args.numbers.now c.loop-number.number-index 0 c.loop-number-test.true c.loop-number.invariant c.in_ok-insert.ensures.updates
