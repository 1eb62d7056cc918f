use Rattle.std.proofs.Common.{◌≡◌, drop}
use Rattle.std.specs.Cmp.Lexicographic.{pointwise}
use Rattle.comp_entity.specs.Fits.{core_exports_equal}
use Rattle.comp_entity.proofs.modules.exports_equal.Given as goal

abbrev pub invariant-loop-place : goal.invariant-loop-place
invariant-loop-place l = pointwise core_exports_equal (drop l.place l.a) (drop l.place l.b) ≡ pointwise core_exports_equal l.a l.b
