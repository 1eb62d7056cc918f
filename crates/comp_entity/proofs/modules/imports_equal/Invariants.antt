use Rattle.std.proofs.Common.{◌≡◌, drop}
use Rattle.std.specs.Cmp.Lexicographic.{pointwise}
use Rattle.comp_entity.specs.Fits.{core_imports_equal}
use Rattle.comp_entity.proofs.modules.imports_equal.Given as goal

abbrev pub invariant-loop-place : goal.invariant-loop-place
invariant-loop-place l = pointwise core_imports_equal (drop l.place l.a) (drop l.place l.b) ≡ pointwise core_imports_equal l.a l.b
