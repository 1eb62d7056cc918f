-- What has to be below 2 ^ 32, so that types can be written.
use Rattle.std.specs.Prelude.{ℕ, ◌≤◌, ◌^◌, max, IfSome, List, [], ◌∷◌, Option}
use Rattle.comp_format.specs.CoreTypes as core
use Rattle.comp_format.specs.CoreTypes.{ModuleDecls}
use Rattle.comp_format.specs.Definitions as tree
use Rattle.comp_format.specs.Definitions.{Decls, decl_count}
use Rattle.comp_encoder.specs.Largest.{core_largest, definition_largest}
use Rattle.compose_writing.specs.Scopes.{WrittenScope}

-- A number of 2 ^ 32 or more, and not above the largest length, count or index that would be written.
pub record IsTooLarge (n largest : ℕ) : Type 0 where
  pub large : 2 ^ 32 ≤ n
  pub among : n ≤ largest

-- The largest of a type of core modules. It counts the declarations, of which no index space has more.
abbrev pub module_size : ModuleDecls → ℕ
module_size ds = core_largest (core.Module ds)

-- the same of the declarations of a scope
abbrev pub decls_size : Decls → ℕ
decls_size ds = definition_largest (tree.Component ds)

-- The largest of a scope, and of scopes: the sizes of its index spaces, and what is declared in it.
abbrev pub scope_size : WrittenScope → ℕ
scope_size m = max (max m.types (max m.instances m.core_types)) (decls_size m.decls)

abbrev pub scopes_size : List WrittenScope → ℕ
scopes_size [] = 0
scopes_size (m ∷ ms) = max (scope_size m) (scopes_size ms)

-- The largest of what is written into scopes: of the scopes that result, where the declarations of each scope that was
-- closed stand as a type.
abbrev pub written_size : {X : Type 0} → List WrittenScope × X → ℕ
written_size x = scopes_size x.0

-- the same with the declarations of a scope that was closed, which are no type yet
abbrev pub closed_size : List WrittenScope × Decls → ℕ
closed_size x = max (scopes_size x.0) (decls_size x.1)

-- the same with how many scopes further out a thing stands
abbrev pub standing_size : List WrittenScope × (ℕ × ℕ) → ℕ
standing_size x = max (scopes_size x.0) x.1.0

-- A number is not above the largest of what is written, where anything is.
pub record IsWithin {X : Type 0} (n : ℕ) (size : X → ℕ) (written : Option X) : Type 0 where
  pub within : IfSome written (λ x. n ≤ size x)

-- All that the index spaces of a scope number is declared in it.
pub record IsDeclared (m : WrittenScope) : Type 0 where
  pub types : m.types ≤ decl_count m.decls
  pub instances : m.instances ≤ decl_count m.decls
  pub core_types : m.core_types ≤ decl_count m.decls

abbrev pub AreDeclared : List WrittenScope → Type 0
AreDeclared [] = Unit {0}
AreDeclared (m ∷ ms) = IsDeclared m × AreDeclared ms
