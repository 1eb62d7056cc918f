use Rattle.std.proofs.Common.{◌≡◌, drop}
use Rattle.std.specs.Cmp.Lexicographic.{pointwise}
use Rattle.comp_entity.specs.Comparing.{entry_alike}
use Rattle.comp_entity.proofs.fit.+equality.Given as goal

abbrev pub invariant-entries_equal-loop-place : goal.invariant-entries_equal-loop-place
invariant-entries_equal-loop-place l = pointwise (entry_alike l.naming) (drop l.place l.given) (drop l.place l.asked) ≡ pointwise (entry_alike l.naming) l.given l.asked
