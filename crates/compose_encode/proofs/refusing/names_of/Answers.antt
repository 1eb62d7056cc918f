use Rattle.compose_encode.proofs.RefusingLaws.{names_more}
use Rattle.compose_encode.proofs.refusing.names_of.Goals as goal

pub loop-left-preserved : goal.loop-left-preserved
loop-left-preserved c =
    names_more c.loop-left.names c.insert.new.self c.args.lefts.now c.loop-left.left-index c.left-item.result _
    c.loop-left-test.true c.left-item.is c.in_ok-try_clone.ensures c.loop-left.invariant c.in_ok-insert.ensures.updates
