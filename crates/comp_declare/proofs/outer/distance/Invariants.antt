use Rattle.std.proofs.Common.{◌≡◌, take}
use Rattle.std.specs.List.{sum_by}
use Rattle.comp_declare.specs.Outer.{width_of}
use Rattle.comp_declare.proofs.outer.distance.Given as goal

abbrev pub invariant-loop-scope : goal.invariant-loop-scope
invariant-loop-scope l = l.distance ≡ sum_by (λ s. width_of s.now) (take l.scope-index l.scopes)
