-- Components have names that differ.
use Rattle.std.proofs.Common.{◌≡◌, ◌<◌, arith, ℕ, zero, suc, false, List, [], ◌∷◌, map, Some, sym, ap, ◌∙◌}
use Rattle.std.specs.Prelude.{bytes_eq, slice_get}
use Rattle.std.proofs.lemmas.Option.{same_Some}
use Rattle.compose_check.specs.Composition.{ComponentTree}
use Rattle.warg_compose.proofs.ComponentLaws.{name_of}
use Rattle.warg_compose.proofs.NameLaws.{AreOwn, has, or_false}

-- a name that none has is that of none by its place
pub unnamed : (cs : List ComponentTree) (name : List ℕ) (j : ℕ) (y : ComponentTree) → has (map name_of cs) name ≡ false → slice_get cs j ≡ Some y → bytes_eq name y.name ≡ false
unnamed [] name j y none e = absurd cc
unnamed (c ∷ cs) name zero y none e = ap (λ (t : ComponentTree). bytes_eq name t.name) (sym (same_Some c y e)) ∙ (or_false (bytes_eq name c.name) (has (map name_of cs) name) none).0
unnamed (c ∷ cs) name (suc j) y none e = unnamed cs name j y (or_false (bytes_eq name c.name) (has (map name_of cs) name) none).1 e

-- components at two places have two names
pub apart : (cs : List ComponentTree) → AreOwn (map name_of cs) → (i j : ℕ) (x y : ComponentTree) → i < j → slice_get cs i ≡ Some x → slice_get cs j ≡ Some y → bytes_eq x.name y.name ≡ false
apart [] own i j x y lt e f = absurd cc
apart (c ∷ cs) own zero zero x y lt e f = absurd (omega (arith, lt))
apart (c ∷ cs) own zero (suc j) x y lt e f = ap (λ (t : ComponentTree). bytes_eq t.name y.name) (sym (same_Some c x e)) ∙ unnamed cs c.name j y own.0 f
apart (c ∷ cs) own (suc i) zero x y lt e f = absurd (omega (arith, lt))
apart (c ∷ cs) own (suc i) (suc j) x y lt e f = apart cs own.1 i j x y (omega (arith, lt)) e f
