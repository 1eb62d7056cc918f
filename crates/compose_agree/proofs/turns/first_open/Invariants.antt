use Rattle.std.proofs.Common.{◌≡◌, List, ℕ, take, true}
use Rattle.std.specs.List.{list_all}
use Rattle.compose_agree.specs.Order.{has}
use Rattle.compose_agree.specs.Turns.{IsTaken}
use Rattle.compose_agree.proofs.turns.first_open.Given as goal

abbrev pub invariant-loop-place : goal.invariant-loop-place
invariant-loop-place l = (done : List ℕ) → IsTaken l.taken done → list_all (has done) (take l.from l.numbers) ≡ true → list_all (has done) (take l.place l.numbers) ≡ true
