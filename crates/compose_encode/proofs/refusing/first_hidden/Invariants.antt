use Rattle.std.proofs.Common.{◌≡◌, None, take}
use Rattle.compose_check.specs.Composition.{composition_tree}
use Rattle.compose_encode.specs.Refusing.{first_of, hidden_at}
use Rattle.compose_encode.proofs.refusing.first_hidden.Given as goal

abbrev pub invariant-loop-number : goal.invariant-loop-number
invariant-loop-number l = first_of (hidden_at (composition_tree l.composition)) (take l.number-index l.numbers) ≡ None
