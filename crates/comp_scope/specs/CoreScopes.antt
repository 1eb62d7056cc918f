-- Core types, their indices followed (Component Model, Explainer.md, "Core Type Definitions"). A type of core modules
-- is a scope of core types, and these types nest.
use Rattle.std.specs.Prelude.{ℕ, List, [], ◌∷◌, ◌++◌, Result, Ok, Err}
use Rattle.warg_values.specs.Reading.{◌>>=◌}
use Rattle.comp_format.specs.declared.core_types.CoreDesc.{CoreDesc}
use Rattle.comp_format.specs.declared.core_types.CoreDesc.TheVariants as description
use Rattle.comp_format.specs.CoreTypes as ty
use Rattle.comp_entity.specs.declared.module.CoreShape.{CoreShape}
use Rattle.comp_entity.specs.declared.module.CoreShape.TheVariants as shape
use Rattle.comp_entity.specs.declared.module.ModuleShape.{ModuleShape}
use Rattle.comp_entity.specs.Entity.{IsModule}
use Rattle.comp_entity.specs.Bounds.{ShapeFault, Index, Bounds, kept}
use Rattle.comp_scope.specs.Spaces.{KnownCoreType, OfItem, OfModules, at_index}

-- what a type of core modules has so far
pub record ModuleScope : Type 0 where
  pub types : List KnownCoreType
  pub imports : List (List ℕ × List ℕ × CoreShape)
  pub exports : List (List ℕ × CoreShape)

abbrev pub no_module_scope : ModuleScope
no_module_scope = record { types = []; imports = []; exports = [] }

abbrev pub module_in : ModuleScope → ModuleShape
module_in m = record { imports = m.imports; exports = m.exports }

abbrev pub as_core_func : KnownCoreType → Result CoreShape ShapeFault
as_core_func (OfItem t) = Ok t
as_core_func _ = Err Index

abbrev pub as_module : KnownCoreType → Result ModuleShape ShapeFault
as_module (OfModules m) = Ok m
as_module _ = Err Index

-- what a declaration of a core module describes
unfoldable pub core_item : List KnownCoreType → CoreDesc → Result CoreShape ShapeFault
core_item types (description.Func i) = at_index types i >>= as_core_func
core_item types (description.Table element limits) = Ok (shape.Table element limits)
core_item types (description.Memory limits) = Ok (shape.Memory limits)
core_item types (description.Global v is_mutable) = Ok (shape.Global v is_mutable)

-- a core type of the scope that is so many scopes further out. `scopes` are their core types, from the innermost.
abbrev pub outer_core : List (List KnownCoreType) → ℕ → ℕ → Result KnownCoreType ShapeFault
outer_core scopes count index = at_index scopes count >>= λ types. at_index types index

unfoldable mutual
  -- a core type within such scopes
  pub core_type_of : Bounds → List (List KnownCoreType) → ty.CoreTree → Result KnownCoreType ShapeFault
  core_type_of b scopes (ty.Func params results) = Ok (OfItem (shape.Func params results))
  core_type_of b scopes (ty.Module ds) =
      module_of b scopes no_module_scope ds >>= λ m. kept b (IsModule (module_in m)) (OfModules (module_in m))

  pub module_of : Bounds → List (List KnownCoreType) → ModuleScope → ty.ModuleDecls → Result ModuleScope ShapeFault
  module_of b scopes m ty.none = Ok m
  module_of b scopes m (ty.more d ds) = with_module_decl b scopes m d >>= λ next. module_of b scopes next ds

  pub with_module_decl : Bounds → List (List KnownCoreType) → ModuleScope → ty.ModuleDeclTree → Result ModuleScope ShapeFault
  with_module_decl b scopes m (ty.Import from name item) =
      core_item m.types item >>= λ t. Ok (record m { imports = m.imports ++ (from, name, t) ∷ [] })
  with_module_decl b scopes m (ty.CoreTy t) =
      core_type_of b (m.types ∷ scopes) t >>= λ known. Ok (record m { types = m.types ++ known ∷ [] })
  with_module_decl b scopes m (ty.OuterAlias count index) =
      outer_core (m.types ∷ scopes) count index >>= λ known. Ok (record m { types = m.types ++ known ∷ [] })
  with_module_decl b scopes m (ty.Export name item) =
      core_item m.types item >>= λ t. Ok (record m { exports = m.exports ++ (name, t) ∷ [] })
