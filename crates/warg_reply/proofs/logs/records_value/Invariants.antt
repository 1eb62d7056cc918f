use Rattle.std.proofs.Common.{map, take}
use Rattle.serde_json.specs.View.{view}
use Rattle.warg_exchange.specs.Replies.{published_in}
use Rattle.warg_reply.proofs.RecordLaws.{ItemsRead}
use Rattle.warg_reply.proofs.logs.records_value.Given as goal

abbrev pub invariant-loop-published : goal.invariant-loop-published
invariant-loop-published l = ItemsRead published_in 1 (map view l.values.items) (take l.published-index l.records)
