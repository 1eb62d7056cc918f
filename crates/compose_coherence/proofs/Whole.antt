-- The entities of a shape have a meaning where the rest is seen to.
use Rattle.std.proofs.Common.{ℕ, zero, suc, List, [], ◌∷◌, ◌++◌, subst, arith}
use Rattle.std.specs.List.{AllByRecursion, Contains}
use Rattle.comp_entity.specs.Entity.{EntityTree, ShapeTree}
use Rattle.comp_coherence.specs.Coherence.{Names, within, any_resource, nowhere, Coheres, IsCoherent}
use Rattle.compose_coherence.specs.Shapes.{HaveMeanings}
use Rattle.compose_coherence.proofs.Agreeing.{joined}
use Rattle.compose_coherence.proofs.Meanings.{has_meaning}

contained : {X : Type 0} (P : X → Type 0) (xs : List X) (x : X) → AllByRecursion P xs → Contains xs x → P x
contained P [] x h c = absurd (omega (arith, c.1))
contained P (y ∷ xs) x h (zero, lt, is) = subst P is h.0
contained P (y ∷ xs) x h (suc k, lt, is) = contained P xs x h.1 (k, omega (arith, lt), is)

pub have_meanings : (s : ShapeTree) → IsCoherent s → HaveMeanings s
have_meanings s h =
    let top : Names = within 2 (any_resource h.tree) nowhere in
    let all = joined (λ (e : List ℕ × EntityTree). Coheres top e.1) s.imports s.exports h.imports h.exports in
    record {
      names = top;
      have = λ mean a e has spot rest. has_meaning top mean spot a e.1 (contained (λ (e : List ℕ × EntityTree). Coheres top e.1) (s.imports ++ s.exports) e all has) rest;
    }
