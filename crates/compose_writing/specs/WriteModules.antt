-- Types of core modules, as they are written: one core type before each function that needs it, imports first, then
-- exports (WebAssembly core specification, "Types"; Component Model, Binary.md, "core:moduletype").
use Rattle.std.specs.Prelude.{ℕ, suc, List, [], ◌∷◌}
use Rattle.comp_format.specs.declared.core_types.CoreDesc.{CoreDesc}
use Rattle.comp_format.specs.declared.core_types.CoreDesc.TheVariants as core_item
use Rattle.comp_format.specs.CoreTypes as core
use Rattle.comp_format.specs.CoreTypes.{ModuleDeclTree, ModuleDecls, with_module_decl}
use Rattle.comp_entity.specs.declared.module.CoreShape.{CoreShape}
use Rattle.comp_entity.specs.declared.module.CoreShape.TheVariants as core_shape
use Rattle.comp_entity.specs.declared.module.ModuleShape.{ModuleShape}

-- declarations of a type of core modules, and how many core types they number
pub record ModuleScope : Type 0 where
  pub decls : ModuleDecls
  pub types : ℕ

abbrev pub with_module : ModuleDeclTree → ModuleScope → ModuleScope
with_module d m = record m { decls = with_module_decl m.decls d }

-- the core type before what needs it
abbrev pub before : CoreShape → ModuleScope → ModuleScope
before (core_shape.Func params results) m =
    record { decls = with_module_decl m.decls (core.CoreTy (core.Func params results)); types = suc m.types }
before item m = m

-- what is imported or exported, where so many core types stand before the one that it needs
abbrev pub core_description : CoreShape → ℕ → CoreDesc
core_description (core_shape.Func params results) types = core_item.Func types
core_description (core_shape.Table element limits) types = core_item.Table element limits
core_description (core_shape.Memory limits) types = core_item.Memory limits
core_description (core_shape.Global v is_mutable) types = core_item.Global v is_mutable

abbrev pub module_import : List ℕ × List ℕ × CoreShape → ModuleScope → ModuleScope
module_import i m = with_module (core.Import i.0 i.1 (core_description i.2 m.types)) (before i.2 m)

abbrev pub module_export : List ℕ × CoreShape → ModuleScope → ModuleScope
module_export e m = with_module (core.Export e.0 (core_description e.1 m.types)) (before e.1 m)

unfoldable pub module_imports : List (List ℕ × List ℕ × CoreShape) → ModuleScope → ModuleScope
module_imports [] m = m
module_imports (i ∷ is) m = module_imports is (module_import i m)

unfoldable pub module_exports : List (List ℕ × CoreShape) → ModuleScope → ModuleScope
module_exports [] m = m
module_exports (e ∷ es) m = module_exports es (module_export e m)

unfoldable pub write_module : ModuleShape → ModuleDecls
write_module m = (module_exports m.exports (module_imports m.imports (record { decls = core.none; types = 0 }))).decls
