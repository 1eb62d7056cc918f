use Rattle.std.proofs.Common.{◌≡◌, ℕ, take}
use Rattle.std.specs.BTreeSet.{contains}
use Rattle.std.specs.Ordering.{nat_cmp}
use Rattle.compose_agree.specs.Order.{has}
use Rattle.compose_encode.proofs.used.set_of.Given as goal

abbrev pub invariant-loop-number : goal.invariant-loop-number
invariant-loop-number l = (n : ℕ) → contains nat_cmp l.set n ≡ has (take l.number-index l.numbers) n
