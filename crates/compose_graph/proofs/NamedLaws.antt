-- No two components of a graph have one name.
use Rattle.std.proofs.Common.{◌≡◌, ◌<◌, arith, ℕ, zero, suc, Bool, true, false, cond, List, [], ◌∷◌, map, Some, None, refl, sym, ap, ◌∙◌}
use Rattle.std.specs.Prelude.{bytes_eq, slice_get}
use Rattle.std.proofs.lemmas.Option.{same_Some}
use Rattle.compose_check.specs.Composition.{ComponentTree}
use Rattle.compose_graph.specs.Composed.{composed_component}
use Rattle.compose_graph.specs.Graph.{ComponentEntry, component_named}
use Rattle.compose_graph.specs.Kept.{HaveOwnNames}

-- a name that none has is that of none by its place
unnamed : (cs : List ComponentEntry) (name : List ℕ) (j : ℕ) (y : ComponentTree) → component_named cs name ≡ None
    → slice_get (map composed_component cs) j ≡ Some y → bytes_eq name y.name ≡ false
unnamed [] name j y none e = absurd cc
unnamed (c ∷ cs) name j y none e = by (bytes_eq name c.name) refl none j e (unnamed cs name)
  where
    by : (b : Bool) → bytes_eq name c.name ≡ b → cond b (Some c) (component_named cs name) ≡ None → (m : ℕ)
        → slice_get (map composed_component (c ∷ cs)) m ≡ Some y
        → ((m : ℕ) (y : ComponentTree) → component_named cs name ≡ None → slice_get (map composed_component cs) m ≡ Some y → bytes_eq name y.name ≡ false)
        → bytes_eq name y.name ≡ false
    by true h k m at rest = absurd cc
    by false h k zero at rest = ap (λ (t : ComponentTree). bytes_eq name t.name) (sym (same_Some (composed_component c) y at)) ∙ h
    by false h k (suc m) at rest = rest m y k at

-- components at two places have two names
pub apart : (cs : List ComponentEntry) → HaveOwnNames cs → (i j : ℕ) (x y : ComponentTree) → i < j
    → slice_get (map composed_component cs) i ≡ Some x → slice_get (map composed_component cs) j ≡ Some y
    → bytes_eq x.name y.name ≡ false
apart [] own i j x y lt e f = absurd cc
apart (c ∷ cs) own zero zero x y lt e f = absurd (omega (arith, lt))
apart (c ∷ cs) own zero (suc j) x y lt e f =
    ap (λ (t : ComponentTree). bytes_eq t.name y.name) (sym (same_Some (composed_component c) x e)) ∙ unnamed cs c.name j y own.0 f
apart (c ∷ cs) own (suc i) zero x y lt e f = absurd (omega (arith, lt))
apart (c ∷ cs) own (suc i) (suc j) x y lt e f = apart cs own.1 i j x y (omega (arith, lt)) e f
