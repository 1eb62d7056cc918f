use Rattle.std.proofs.Common.{◌≡◌, Some, map, take}
use Rattle.compose_order.specs.Known.{left_tree}
use Rattle.compose_naming.specs.Bits.{behind_lefts, outermost}
use Rattle.compose_naming.specs.Scopes.{scopes_in}
use Rattle.compose_naming.proofs.lefts.first_without_bit.Given as goal

abbrev pub invariant-loop-number : goal.invariant-loop-number
invariant-loop-number l =
    behind_lefts (take l.number (map left_tree l.imports)) outermost ≡ Some (scopes_in l.scopes.items)
