use Rattle.std.proofs.Common.{◌≡◌, ◌∷◌, map, take}
use Rattle.comp_declare.proofs.outer_aliases.scopes_within.Given as goal

abbrev pub invariant-loop-scope : goal.invariant-loop-scope
invariant-loop-scope l = map (λ s. s.now) l.all.items ≡ l.own ∷ map (λ s. s.now) (take l.scope-index l.around)
