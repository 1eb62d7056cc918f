-- What components and instances are by numbers of a table: each side is one instance.
use Rattle.std.specs.Prelude.{◌≡◌, ◌<◌, ℕ, suc, List, [], ◌∷◌, Option, Some, None, slice_get}
use Rattle.comp_entity.specs.Entity.{EntityTree, IsInstance, ShapeTree}
use Rattle.comp_entity.specs.Names.{Change, changing, entity_by, entries_by}
use Rattle.comp_entity.specs.Views.{entries_of}
use Rattle.comp_entity.specs.Fits.{fits_with, same_name}
use Rattle.comp_table.specs.Plain.{plain_entity}
use Rattle.comp_table.specs.Shown.{AreShown}
use Rattle.comp_table.specs.Trees.{PlainTree, Stands}
use Rattle.compose_left.specs.Wiring.{Wiring}
use Rattle.compose_fit.specs.declared.misfit.Misfit.{Misfit}
use Rattle.compose_fit.specs.Fit.{Comparison, FitsAt, IsMisfitAt}
use Rattle.compose_fit.specs.Wires.{Given, Whole, Export}
use Rattle.compose_fit.specs.declared.wire.GivenNumber.{GivenNumber}
use Rattle.compose_fit.specs.declared.wire.GivenNumber.TheVariants as numbered
use Rattle.std.specs.Borrow.{Bor}
use Rattle.warg_values.specs.declared.text.Text.{Text}
use Rattle.comp_fit.specs.Loose.{loosely}
use Rattle.compose_left.specs.Renaming.{placed_resource, placed_type}
use Rattle.compose_fit.specs.declared.naming.Naming.{Naming}
use Rattle.compose_fit.specs.declared.naming.Naming.TheVariants as naming
use Rattle.compose_fit.specs.declared.numbered.ShapeNumbers.{ShapeNumbers}

-- an instance with these exports
abbrev pub instance_of : List (List ℕ × EntityTree) → EntityTree
instance_of es = IsInstance (entries_of es)

-- the numbers are those of what this shape imports, and of what it exports
pub record IsNumbered (ts : List PlainTree) (n : ShapeNumbers) (s : ShapeTree) : Type 0 where
  pub imports : Stands ts n.imports (plain_entity (instance_of s.imports))
  pub exports : Stands ts n.exports (plain_entity (instance_of s.exports))
  pub shown : AreShown (entries_of s.imports)

abbrev pub IsOf : List PlainTree → Option ShapeNumbers → ShapeTree → Type 0
IsOf ts None s = ⊥
IsOf ts (Some n) s = IsNumbered ts n s

-- instances of components, by the numbers of these, have these shapes
abbrev pub AreInstances : List PlainTree → List ShapeNumbers → List ℕ → List ShapeTree → Type 0
AreInstances ts components [] [] = Unit {0}
AreInstances ts components (i ∷ instances) (s ∷ shapes) =
    IsOf ts (slice_get components i) s × AreInstances ts components instances shapes
AreInstances ts components _ _ = ⊥

abbrev pub HaveShapes : List PlainTree → List ShapeNumbers → List ℕ → Type 0
HaveShapes ts components instances = (shapes : List ShapeTree) × AreInstances ts components instances shapes

-- ---- in other names

-- the same numbers in other names
pub record IsSeen (ts : List PlainTree) (c : Change) (n : ShapeNumbers) (s : ShapeTree) : Type 0 where
  pub imports : Stands ts n.imports (plain_entity (entity_by c 0 (instance_of s.imports)))
  pub exports : Stands ts n.exports (plain_entity (entity_by c 0 (instance_of s.exports)))
  pub shown : AreShown (entries_of s.imports)

-- instances, numbered from here on, each in its own names
abbrev pub AreSeen : List PlainTree → (ℕ → Change) → ℕ → List ShapeNumbers → List ShapeTree → Type 0
AreSeen ts c i [] [] = Unit {0}
AreSeen ts c i (n ∷ ns) (s ∷ ss) = IsSeen ts (c i) n s × AreSeen ts c (suc i) ns ss
AreSeen ts c i _ _ = ⊥

abbrev pub compared_by : (ℕ → Change) → Comparison
compared_by c source given target asked = fits_with same_name (entity_by (c source) 0 given) (entity_by (c target) 0 asked)

abbrev pub AreSomething : List PlainTree → List ShapeNumbers → Type 0
AreSomething ts ns = (c : ℕ → Change) × (shapes : List ShapeTree) × AreSeen ts c 0 ns shapes

-- an import or an export that was found by its number, in other names
abbrev pub IsEntryFound : List PlainTree → Change → Option (Bor Text × ℕ) → Option (List ℕ × EntityTree) → Type 0
IsEntryFound ts c None None = Unit {0}
IsEntryFound ts c (Some found) (Some e) = (found.0.now ≡ e.0) × Stands ts found.1 (plain_entity (entity_by c 0 e.1))
IsEntryFound ts c _ _ = ⊥

-- what a wire gives, by numbers, in other names
abbrev pub given_in : Change → Given → Given
given_in c (Whole es) = Whole (entries_by c 0 es)
given_in c (Export name e) = Export name (entity_by c 0 e)

abbrev pub IsGiven : List PlainTree → GivenNumber → Given → Type 0
IsGiven ts (numbered.Whole n) (Whole es) = Stands ts n (plain_entity (IsInstance es))
IsGiven ts (numbered.Export name n) (Export m e) = (name.now ≡ m) × Stands ts n (plain_entity e)
IsGiven ts _ _ = ⊥

abbrev pub IsGivenFound : List PlainTree → Change → Option GivenNumber → Option Given → Type 0
IsGivenFound ts c None None = Unit {0}
IsGivenFound ts c (Some found) (Some g) = IsGiven ts found (given_in c g)
IsGivenFound ts c _ _ = ⊥

-- names being compared as they are
abbrev pub plainly : Comparison
plainly source given target asked = fits_with same_name given asked

-- how the things of an instance are called
abbrev pub changes : Naming → ℕ → Change
changes naming.AsOne i = loosely
changes (naming.InPlace origins) i = changing (placed_resource origins.now i) (placed_type origins.now i)

-- the first of what goes into the imports of an instance that does not fit
pub record IsFirstInto (c : Comparison) (w : Wiring) (target : ℕ) (m : Misfit) : Type 0 where
  pub import : ℕ
  pub here : IsMisfitAt c w target import m
  pub before : (i : ℕ) → i < import → FitsAt c w target i
