-- All that index spaces number is declared, also where scopes grow.
use Rattle.std.proofs.Common.{◌≡◌, ◌≤◌, List, [], ◌∷◌, Some, arith, subst}
use Rattle.comp_encoder.specs.Largest.{definition_largest}
use Rattle.compose_writing.specs.Scopes.{WrittenScope, Wrote, outermost}
use Rattle.compose_types.specs.Largest.{AreDeclared, IsDeclared, decls_size, scope_size, scopes_size, written_size}
use Rattle.compose_types.proofs.GrowLaws.{GrowAll, Grows, sizes_grow}
use Rattle.compose_types.proofs.WriteGrowLaws.{Growing}

declared_later : (m n : WrittenScope) → Grows m n → IsDeclared m → IsDeclared n
declared_later m n g d = record {
  types = let t = g.types.by in let le = d.types in omega (arith, t, le);
  instances = let t = g.instances.by in let le = d.instances in omega (arith, t, le);
  core_types = let t = g.core_types.by in let le = d.core_types in omega (arith, t, le);
}

pub all_declared : (ms ns : List WrittenScope) → GrowAll ms ns → AreDeclared ms → AreDeclared ns
all_declared [] [] g d = tt
all_declared [] (n ∷ ns) g d = elim g [ ]
all_declared (m ∷ ms) [] g d = elim g [ ]
all_declared (m ∷ ms) (n ∷ ns) g d = (declared_later m n g.0 d.0, all_declared ms ns g.1 d.1)

pub outermost_declared : AreDeclared (outermost ∷ [])
outermost_declared = (record { types = omega arith; instances = omega arith; core_types = omega arith }, tt)

-- the declarations are as many as the items of an index space, or more
pub declared_size : (m : WrittenScope) → IsDeclared m → scope_size m ≡ decls_size m.decls
unfolding definition_largest
declared_size m d = let a = d.types in let b = d.instances in let c = d.core_types in omega (arith, a, b, c)

-- what grows, where anything is written
pub grown : {X : Type 0} (ms : List WrittenScope) (w : Wrote X) (x : List WrittenScope × X) → Growing ms w → w ≡ Some x → GrowAll ms x.0
grown ms w x g is = subst (λ w. Growing ms w) is g

pub grown_size : {X : Type 0} (ms : List WrittenScope) (w : Wrote X) (x : List WrittenScope × X) → Growing ms w → w ≡ Some x → scopes_size ms ≤ written_size x
grown_size ms w x g is = sizes_grow ms x.0 (grown ms w x g is)
