use Rattle.std.proofs.Common.{◌≡◌, map, take}
use Rattle.comp_define.proofs.core_types.core_types_of.Given as goal

abbrev pub invariant-loop-scope : goal.invariant-loop-scope
invariant-loop-scope l = map (λ s. s.now) l.all.items ≡ map (λ s. s.now.core_types.items) (take l.scope-index l.scopes)
