use Rattle.std.proofs.Common.{◌≡◌, ℕ, List, []}
use Rattle.compose_agree.specs.Turns.{IsTaken, left_of}
use Rattle.compose_agree.proofs.order.first_left.Given as goal

abbrev pub invariant-loop-number : goal.invariant-loop-number
invariant-loop-number l = (done : List ℕ) → IsTaken l.taken done → left_of done l.number-counter ≡ []
