-- The scopes that a state holds, from the innermost.
use Rattle.std.specs.Prelude.{◌≡◌, ◌≢◌, ℕ, List, [], ◌∷◌, ◌++◌, map, reverse, Option, Some, None, nat_lt, if◌then◌else◌}
use Rattle.compose_writing.specs.Keys.{KnownThings}
use Rattle.comp_format.specs.declared.types.TypeRef.{TypeRef}
use Rattle.comp_format.specs.Definitions as tree
use Rattle.comp_format.specs.Definitions.{DeclTree}
use Rattle.compose_writing.specs.Scopes.{WrittenScope}
use Rattle.compose_writing.specs.Scopes.{declared as declare}
use Rattle.compose_writing.specs.WriteEntities.{counted}
use Rattle.compose_types.specs.declared.body.Side.{Side}
use Rattle.compose_types.specs.declared.body.Side.TheVariants as side
use Rattle.compose_types.specs.declared.body.Scope.{Scope}
use Rattle.compose_types.specs.declared.body.Scope.TheVariants as kind
use Rattle.compose_types.specs.Bodies.{declared, kind_in}
use Rattle.compose_types.specs.declared.open.Declared.{Declared}
use Rattle.compose_types.specs.declared.open.Open.{Open}

abbrev pub with_names : ℕ → KnownThings → Declared → WrittenScope
with_names width known d =
    record { width = width; decls = declared d.body; types = d.types; instances = d.instances; core_types = d.core_types; known = known }

abbrev pub scope_of : Open → WrittenScope
scope_of o = with_names o.width o.known o.declared

abbrev pub scopes_in : List Open → Open → List WrittenScope
scopes_in inner outermost = reverse (map scope_of inner) ++ scope_of outermost ∷ []

-- A state: the outermost scope, and those within it, the innermost last.
abbrev pub State : Type 0
State = Open × List Open

-- its scopes, from the innermost
abbrev pub scopes : State → List WrittenScope
scopes s = scopes_in s.1 s.0

-- the component that a state builds
abbrev pub outermost_scope : State → WrittenScope
outermost_scope s = scope_of s.0

-- The outermost scope is a component.
abbrev pub IsOutermost : Open → Type 0
IsOutermost o = kind_in o.declared.body ≡ kind.Builder

-- The kind of a scope within another, by how many scopes of names it counts as: a type of components counts as two, and
-- one of instances as less.
abbrev pub kind_of : ℕ → Scope
kind_of width = if nat_lt width 2 then kind.Instance else kind.Component

abbrev pub IsInner : Open → Type 0
IsInner o = kind_in o.declared.body ≡ kind_of o.width

-- the kind of the innermost scope, where it lies within another
abbrev pub inner_kind : List WrittenScope → Option Scope
inner_kind (m ∷ around ∷ ms) = Some (kind_of m.width)
inner_kind ms = None

-- Imports are declared in a type of components, and exports in that or in a type of instances. What is imported into
-- the component that is built is declared by a call of its own.
abbrev pub Takes : Side → Scope → Type 0
Takes side.Imports k = k ≡ kind.Component
Takes side.Exports k = k ≢ kind.Builder

-- whether an import is declared, or an export
abbrev pub item_of : Side → List ℕ → TypeRef → DeclTree
item_of side.Imports name ty = tree.Import name ty
item_of side.Exports name ty = tree.Export name ty

-- An import or export of this description was declared in the innermost scope. So many types and instances stood before it.
pub record Declares (d : DeclTree) (ty : TypeRef) (old new : List WrittenScope) (types instances : ℕ) : Type 0 where
  pub top : WrittenScope
  pub around : List WrittenScope
  pub was : old ≡ top ∷ around
  pub is : new ≡ counted ty (declare d top) ∷ around
  pub types_are : types ≡ top.types
  pub instances_are : instances ≡ top.instances
