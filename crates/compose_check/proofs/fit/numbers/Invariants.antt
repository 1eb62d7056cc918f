use Rattle.std.proofs.Common.{take, map}
use Rattle.compose_check.specs.Shapes.{AreNumbered, lent_shape_tree}
use Rattle.compose_check.proofs.fit.numbers.Given as goal

abbrev pub invariant-loop-number : goal.invariant-loop-number
invariant-loop-number l = AreNumbered l.table l.numbers.items (map lent_shape_tree (take l.number l.composition.components.items))
