-- The components of a composition that lies in memory have shapes that were read.
use Rattle.std.proofs.Common.{◌≡◌, sym, subst, ℕ, zero, suc, List, [], ◌∷◌, map, None}
use Rattle.std.proofs.Math.Logic.{∥∥₁_elim}
use Rattle.std.proofs.Props.{props}
use Rattle.std.specs.Borrow.{Bor}
use Rattle.std.specs.List.{AllByRecursion}
use Rattle.comp_entity.specs.Entity.{EntityTree, ShapeTree}
use Rattle.compose_component.specs.declared.component.Component.{Component}
use Rattle.compose_component.specs.Component.{shape_of}
use Rattle.compose_left.specs.Wiring.{no_shape}
use Rattle.compose_check.specs.Composition.{ComponentTree, component_tree, shape_numbered}
use Rattle.compose_settled.specs.Named.{HasOwnNames, IsWellNamed}
use Rattle.compose_known.specs.Importable.{NamesImports}
use Rattle.compose_known.specs.Placed.{HasPlaces}

-- what holds of each component's shape
of_components : (P : ShapeTree → Type 0) → ((component : Component) → P (shape_of component))
    → (cs : List (Bor Component)) → AllByRecursion (λ (k : ComponentTree). P k.shape) (map component_tree cs)
of_components P h [] = tt
of_components P h (c ∷ cs) = (h c.now, of_components P h cs)

pub all_of : (P : ShapeTree → Type 0) → ((component : Component) → P (shape_of component))
    → (ks : List ComponentTree) (held : List (Bor Component)) → ks ≡ map component_tree held
    → AllByRecursion (λ (k : ComponentTree). P k.shape) ks
all_of P h ks held are = subst (AllByRecursion (λ (k : ComponentTree). P k.shape)) (sym are) (of_components P h held)

none_well_named : IsWellNamed no_shape
none_well_named =
    record {
      coherent = record { tree = λ n. None; imports = tt; exports = tt };
      imports_brought = tt;
      exports_brought = tt;
      imports_apart = tt;
      exports_apart = tt;
    }

abbrev MayBeNamed : ShapeTree → Type 0
MayBeNamed s = ∥ IsWellNamed s ∥₁

numbered : (ks : List ComponentTree) (n : ℕ) → AllByRecursion (λ (k : ComponentTree). MayBeNamed k.shape) ks
    → MayBeNamed (shape_numbered ks n)
numbered [] n h = ∣ none_well_named ∣₁
numbered (k ∷ ks) zero h = h.0
numbered (k ∷ ks) (suc n) h = numbered ks n h.1

pub shapes_well_named : (ks : List ComponentTree) (instances : List ℕ)
    → AllByRecursion (λ (k : ComponentTree). ∥ IsWellNamed k.shape ∥₁) ks
    → ∥ AllByRecursion IsWellNamed (map (shape_numbered ks) instances) ∥₁
shapes_well_named ks [] h = ∣ tt ∣₁
shapes_well_named ks (n ∷ ns) h =
    ∥∥₁_elim (numbered ks n h) (hlevel props)
    (λ first. ∥∥₁_elim (shapes_well_named ks ns h) (hlevel props) (λ rest. ∣ (first, rest) ∣₁))

-- the names in the imports of components
each_named : ((component : Component) → AllByRecursion (λ (e : List ℕ × EntityTree). HasOwnNames e.1)
    (shape_of component).imports) → ((component : Component)
    → AllByRecursion (λ (e : List ℕ × EntityTree). HasPlaces e.1) (shape_of component).imports)
    → (cs : List (Bor Component)) → AllByRecursion NamesImports (map component_tree cs)
each_named apart placed [] = tt
each_named apart placed (c ∷ cs) = (record { apart = apart c.now; placed = placed c.now }, each_named apart placed cs)

pub imports_named : ((component : Component)
    → AllByRecursion (λ (e : List ℕ × EntityTree). HasOwnNames e.1) (shape_of component).imports)
    → ((component : Component) → AllByRecursion (λ (e : List ℕ × EntityTree). HasPlaces e.1)
    (shape_of component).imports) → (ks : List ComponentTree) (held : List (Bor Component))
    → ks ≡ map component_tree held → AllByRecursion NamesImports ks
imports_named apart placed ks held are = subst (AllByRecursion NamesImports) (sym are) (each_named apart placed held)
