use Rattle.std.proofs.Common.{◌≡◌, None, map, take}
use Rattle.compose_check.specs.Composition.{composition_tree}
use Rattle.compose_order.specs.Known.{left_tree}
use Rattle.compose_encode.specs.Refusing.{clash_at, first_of}
use Rattle.compose_encode.proofs.refusing.first_clash.Given as goal

abbrev pub invariant-loop-number : goal.invariant-loop-number
invariant-loop-number l =
    first_of (clash_at (composition_tree l.composition) (map left_tree l.fn.lefts)) (take l.number-index l.numbers) ≡ None
