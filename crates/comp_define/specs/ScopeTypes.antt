-- Types that are scopes of declarations, before they are put into the index spaces of the scope around them.
use Rattle.std.specs.Prelude.{ℕ, Bool, true, false, List, ◌∷◌, Result, Ok}
use Rattle.warg_values.specs.Reading.{◌>>=◌}
use Rattle.comp_entity.specs.Bounds.{ShapeFault, Bounds}
use Rattle.comp_entity.specs.Entity.{Resource, Instance, Component, EntityTree, IsType, made}
use Rattle.comp_format.specs.CoreTypes.{CoreTree}
use Rattle.comp_format.specs.Definitions.{Decls}
use Rattle.comp_scope.specs.Aliases.{core_scopes}
use Rattle.comp_scope.specs.Closing.{closed}
use Rattle.comp_scope.specs.CoreScopes.{core_type_of}
use Rattle.comp_scope.specs.Spaces.{Spaces, Known, nothing_known, entries_in, with_core_type}
use Rattle.comp_scope.specs.Types.{opened_scope, with_decls}
use Rattle.comp_table.specs.Plain.{plain_entity}
use Rattle.comp_table.specs.Trees.{PlainTree, Stands}

-- the type that a scope of declarations is: of components where the scope is closed, and of instances otherwise
abbrev pub type_of_scope : Bool → Known → EntityTree
type_of_scope true k = IsType (Component (closed k).imports (closed k).exports)
type_of_scope false k = IsType (Instance (entries_in k.exports))

-- the type that declarations declare within such scopes
abbrev pub declared_type : Bounds → List Spaces → Bool → Decls → Result EntityTree ShapeFault
declared_type b scopes is_closed ds =
    opened_scope b scopes (with_decls b scopes (nothing_known is_closed) ds >>= λ k. Ok (type_of_scope is_closed k))

-- a core type behind the others of a scope: `around` are the scopes around, from the innermost
abbrev pub with_core_type_of : Bounds → List Spaces → Spaces → CoreTree → Result Spaces ShapeFault
with_core_type_of b around s t = core_type_of b (core_scopes (s ∷ around)) t >>= λ known. Ok (with_core_type s known)

-- the resource that a scope makes next
abbrev pub next_resource : Spaces → EntityTree
next_resource s = IsType (Resource (made s.made.resources))

-- the number stands for an entity
abbrev pub ShowsEntity : List PlainTree → ℕ → EntityTree → Type 0
ShowsEntity table number e = Stands table number (plain_entity e)
