use Rattle.std.proofs.Common.{◌≡◌, map, take}
use Rattle.serde_json.specs.View.{view}
use Rattle.warg_exchange.specs.Requests.{whole_number}
use Rattle.warg_request.proofs.bodies.inclusion_value.Given as goal

abbrev pub invariant-loop-leaf : goal.invariant-loop-leaf
invariant-loop-leaf l = map view l.leafs.items ≡ map whole_number (take l.leaf-index l.request.leafs)
