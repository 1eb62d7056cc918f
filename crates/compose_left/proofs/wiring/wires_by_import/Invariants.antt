use Rattle.std.proofs.Common.{◌≡◌}
use Rattle.std.specs.Prelude.{vec_len}
use Rattle.std.specs.Option.{option_or}
use Rattle.std.specs.BTreeMap.{get}
use Rattle.compose_left.specs.declared.wiring.Input.{Input}
use Rattle.compose_left.specs.Wiring.{wire_into}
use Rattle.compose_left.specs.Wired.{input_cmp}
use Rattle.compose_left.proofs.wiring.wires_by_import.Given as goal

abbrev pub invariant-loop-wire : goal.invariant-loop-wire
invariant-loop-wire l = (q : Input) → option_or (wire_into l.left.items q.target q.import) (get input_cmp l.found q) ≡ wire_into l.wires q.target q.import

abbrev pub decreases-loop-wire : goal.decreases-loop-wire
decreases-loop-wire l = vec_len l.left
