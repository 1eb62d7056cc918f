use Rattle.std.proofs.Common.{◌≡◌, take, map}
use Rattle.compose_left.specs.Wiring.{shapes_of}
use Rattle.compose_check.specs.Composition.{component_tree, shape_numbered}
use Rattle.compose_check.proofs.fit.shapes.Given as goal

abbrev pub invariant-loop-number : goal.invariant-loop-number
invariant-loop-number l = shapes_of l.shapes.items ≡ map (shape_numbered (map component_tree l.composition.components.items)) (take l.number-index l.number-items)
