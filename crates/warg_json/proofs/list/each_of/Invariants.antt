use Rattle.std.proofs.Common.{◌≡◌, map, drop}
use Rattle.serde_json.specs.View.{items_view}
use Rattle.warg_exchange.specs.Body.{each_item}
use Rattle.warg_json.proofs.ListLaws.{behind}
use Rattle.warg_json.proofs.list.each_of.Given as goal

abbrev pub invariant-loop-value : goal.invariant-loop-value
invariant-loop-value g l =
    behind (map g.T.FromBody.plain l.items) (each_item g.T.FromBody.meaning (items_view (drop l.value-index l.values)))
    ≡ each_item g.T.FromBody.meaning (items_view l.values)
