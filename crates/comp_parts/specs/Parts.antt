-- Parts of a component, before they are put into the index spaces of the scope around them.
use Rattle.std.specs.Prelude.{◌≡◌, ℕ, zero, suc, true, List, [], ◌∷◌, ◌++◌, Option, Some, None, Result, Ok, Err}
use Rattle.warg_values.specs.Answers as answers
use Rattle.warg_values.specs.Reading.{◌>>=◌}
use Rattle.comp_entity.specs.Bounds.{ShapeFault, TooBig, Bounds, bounded}
use Rattle.comp_entity.specs.Entity.{EntityTree, IsComponent, IsOwnModule}
use Rattle.comp_scope.specs.Closing.{closed}
use Rattle.comp_scope.specs.Shape.{Parts, nothing, then_part, after_part, after_parts}
use Rattle.comp_scope.specs.Spaces.{Spaces, Known, nothing_known}
use Rattle.comp_scope.specs.Types.{opened_scope}
use Rattle.comp_space.specs.declared.error.ScopeError.{ScopeError}
use Rattle.comp_space.specs.Faults.{Fails, Found, fault_of}
use Rattle.comp_parts.specs.declared.error.PartError.{PartError}
use Rattle.comp_parts.specs.declared.error.ShapeError.{ShapeError}
use Rattle.comp_parts.specs.declared.error.ShapeError.TheVariants as errors

-- a core module of the component's own behind the others
abbrev pub with_own_module : Spaces → Spaces
with_own_module s = record s { modules = s.modules ++ (IsOwnModule, true) ∷ [] }

-- the component that a scope is
abbrev pub component_of : Known → EntityTree
component_of k = IsComponent (closed k).imports (closed k).exports

-- the component that parts are within such scopes
abbrev pub component_within : Bounds → List Spaces → Parts → Result EntityTree ShapeFault
component_within b scopes parts =
    opened_scope b scopes (after_parts b scopes (nothing_known true) parts >>= λ k. Ok (component_of k))

-- an answer that tells the item, beside what the definition gives
abbrev pub FindsParts : {X Y : Type 0} → (X → Y → Type 0) → Result X PartError → Result Y ShapeFault → Type 0
FindsParts IsShownBy (Ok answer) given = Found IsShownBy answer given
FindsParts IsShownBy (Err e) given = Fails e.error given

-- behind those in front of it, which have none, the part of this number has this fault
abbrev pub FaultAt : Known → ℕ → ScopeError → Parts → Type 0
FaultAt k number error nothing = ⊥
FaultAt k zero error (then_part p ps) = Fails error (after_part bounded [] k p)
FaultAt k (suc number) error (then_part p ps) = (next : Known) × (after_part bounded [] k p ≡ Ok next) × FaultAt next number error ps

-- the fault that an error tells of a shape. Want of memory tells none.
abbrev pub shape_fault : ShapeError → Option ShapeFault
shape_fault (errors.Item e) = fault_of e.error
shape_fault errors.TooBig = Some TooBig
shape_fault errors.Memory = None

-- The error tells the fault that the definition gives.
abbrev pub TellsFault : {Y : Type 0} → ShapeError → Result Y ShapeFault → Type 0
TellsFault error given = answers.Fails shape_fault error given

-- Where the error tells an item, it is the first that has a fault, and has this one.
abbrev pub TellsItem : ShapeError → Parts → Type 0
TellsItem (errors.Item e) parts = FaultAt (nothing_known true) e.item e.error parts
TellsItem errors.TooBig parts = Unit {0}
TellsItem errors.Memory parts = Unit {0}
