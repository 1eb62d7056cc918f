use Rattle.std.proofs.Common.{◌≡◌, drop}
use Rattle.std.specs.Cmp.Lexicographic.{pointwise}
use Rattle.comp_entity.specs.Comparing.{value_alike, field_alike, case_alike}
use Rattle.comp_entity.proofs.values.+values.Given as goal

abbrev pub invariant-parts_equal-loop-place : goal.invariant-parts_equal-loop-place
invariant-parts_equal-loop-place l = pointwise (value_alike l.naming) (drop l.place l.given) (drop l.place l.asked) ≡ pointwise (value_alike l.naming) l.given l.asked

abbrev pub invariant-fields_equal-loop-place : goal.invariant-fields_equal-loop-place
invariant-fields_equal-loop-place l = pointwise (field_alike l.naming) (drop l.place l.given) (drop l.place l.asked) ≡ pointwise (field_alike l.naming) l.given l.asked

abbrev pub invariant-cases_equal-loop-place : goal.invariant-cases_equal-loop-place
invariant-cases_equal-loop-place l = pointwise (case_alike l.naming) (drop l.place l.given) (drop l.place l.asked) ≡ pointwise (case_alike l.naming) l.given l.asked
