use Rattle.std.proofs.Common.{◌≡◌, take, Ok}
use Rattle.compose_config.specs.Arguments.{arguments_view}
use Rattle.warg_plan.specs.Walk as spec
use Rattle.warg_plan.specs.Steps.{wires_view}
use Rattle.warg_plan.proofs.node.wires_of.Given as goal

abbrev pub invariant-loop-name : goal.invariant-loop-name
invariant-loop-name l = spec.wires_of (arguments_view l.arguments) (take l.name-index l.imports) ≡ Ok (wires_view l.wires.items)
