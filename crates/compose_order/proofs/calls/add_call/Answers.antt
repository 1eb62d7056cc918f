use Rattle.compose_order.proofs.CallLaws.{calls_more}
use Rattle.compose_order.proofs.calls.add_call.Goals as goal

pub returns : goal.returns
returns c = λ xs h. calls_more c.args.calls.now _ xs c.args.spot.now h c.in_ok-insert.ensures.updates c.in_ok-add_thing.ensures
