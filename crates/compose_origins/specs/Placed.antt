-- With the numbers of origins in place, one number stands for one type (Component Model, Explainer.md, "Import and
-- Export Definitions").
use Rattle.std.specs.Prelude.{◌≡◌, ℕ, true, false, List, [], ◌∷◌, Option, Some, None, option_and_then, slice_get}
use Rattle.std.specs.List.{AllByRecursion}
use Rattle.comp_entity.specs.Entity.{EntityTree, IsType, IsInstance, ShapeTree, Value, ValueTree}
use Rattle.comp_entity.specs.Fits.{under}
use Rattle.comp_entity.specs.Places.{Path}
use Rattle.comp_scope.specs.Spaces.{is_named}
use Rattle.comp_coherence.specs.Coherence.{Coheres, Names, bare_value}
use Rattle.compose_left.specs.declared.spots.Spot.{Spot}
use Rattle.compose_left.specs.declared.spots.Thing.{Thing}
use Rattle.compose_left.specs.Origins.{placed}
use Rattle.compose_left.specs.Wiring.{Wiring}
use Rattle.compose_needs.specs.declared.leaves.Leaf.{Leaf}
use Rattle.compose_needs.specs.Leaves.{leaves_at}
use Rattle.compose_order.specs.Needs.{LeftTree, called_at}
use Rattle.compose_check.specs.Open.{lefts}

-- imports or exports of an instance, placed, cohere with names
abbrev pub PlacedCohere : Names → Wiring → ℕ → List (List ℕ × EntityTree) → Type 0
PlacedCohere names w i es = AllByRecursion (λ (e : List ℕ × EntityTree). Coheres names (placed w i e.1)) es

-- the type for which a named type stands
abbrev pub type_of : Names → Thing → Option ValueTree
type_of names t = names.tree (record { out = t.out; number = t.number })

-- what is called at a place, where it is a type, stands for the type of what is named there
abbrev pub IsTypeOf : Names → Option Thing → Thing → Type 0
IsTypeOf names named t = t.is_type ≡ true → (n : Thing) → named ≡ Some n → type_of names t ≡ type_of names n

-- the type of values at a path of an entity
abbrev pub value_at : Path → EntityTree → Option ValueTree
value_at [] (IsType (Value t)) = Some t
value_at (name ∷ path) (IsInstance es) = option_and_then (λ e. value_at path e.0) (under name es)
value_at _ _ = None

-- At a path stands the type for which a named type stands: one that places name.
pub record StandsThere (names : Names) (e : EntityTree) (path : Path) (t : Thing) : Type 0 where
  pub ty : ValueTree
  pub there : value_at path e ≡ Some ty
  pub is : type_of names t ≡ Some (bare_value ty)
  pub nameless : is_named (bare_value ty) ≡ false

-- what is called in an import, where it is a type, stands at its path
abbrev pub CallsWhatStands : Names → LeftTree → Type 0
CallsWhatStands names l =
    AllByRecursion (λ (s : Spot). s.what.is_type ≡ true → StandsThere names l.entity s.path s.what) l.calls

-- those that need an import call one type at each place of it
abbrev pub CallsOneType : Names → LeftTree → Type 0
CallsOneType names l = AllByRecursion
    (λ (leaf : Leaf). AllByRecursion (IsTypeOf names leaf.named) (called_at l.calls leaf.path)) (leaves_at l.entity)

-- There are types for which the numbers of origins stand, with which cohere all that instances import and export, and
-- all that is left open, whatever the numbers by which that is called.
pub record OneTypeEach (w : Wiring) : Type 0 where
  pub names : Names
  pub imports : (i : ℕ) (s : ShapeTree) → slice_get w.shapes i ≡ Some s → PlacedCohere names w i s.imports
  pub exports : (i : ℕ) (s : ShapeTree) → slice_get w.shapes i ≡ Some s → PlacedCohere names w i s.exports
  pub stands : AllByRecursion (CallsWhatStands names) (lefts w)
  pub calls : AllByRecursion (CallsOneType names) (lefts w)
  pub lefts : AllByRecursion (λ (l : LeftTree). Coheres names l.entity) (lefts w)
