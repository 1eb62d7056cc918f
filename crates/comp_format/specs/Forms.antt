-- What a type has to be to have a written form, whatever its lengths: names that are not empty where the format asks
-- so, labels that differ, at least one part, at most 32 flags, and declarations that may stand where they do (Component
-- Model, Binary.md, "Type Definitions" and "Core Type Definitions").
use Rattle.std.specs.Prelude.{◌≡◌, ℕ, ◌<◌, ◌≤◌, Bool, true, false, List, length, map, All}
use Rattle.std.specs.List.{IsDistinct}
use Rattle.std.specs.Str.{bytes_eq}
use Rattle.comp_format.specs.declared.core_types.CoreDesc.{CoreDesc}
use Rattle.comp_format.specs.declared.core_types.CoreDesc.TheVariants as core_item
use Rattle.comp_format.specs.declared.types.DefinedType.{DefinedType}
use Rattle.comp_format.specs.declared.types.DefinedType.TheVariants as defined
use Rattle.comp_format.specs.declared.types.FuncType.{FuncType}
use Rattle.comp_format.specs.declared.types.Alias.{Alias}
use Rattle.comp_format.specs.declared.types.Alias.TheVariants as alias
use Rattle.comp_format.specs.Types.{label_of}
use Rattle.comp_format.specs.Parts.{is_outer}
use Rattle.comp_format.specs.CoreTypes as core
use Rattle.comp_format.specs.CoreTypes.{CoreTree, ModuleDeclTree, ModuleDecls, is_reference}
use Rattle.comp_format.specs.Definitions as tree
use Rattle.comp_format.specs.Definitions.{TypeTree, DeclTree, Decls, is_resource, is_declared}

-- labels that are not empty, and differ
pub record AreLabels (labels : List (List ℕ)) : Type 0 where
  pub named : All (λ label. 0 < length label) labels
  pub differ : IsDistinct bytes_eq labels

abbrev pub IsDefined : DefinedType → Type 0
IsDefined (defined.RecordOf fields) = (0 < length fields) × AreLabels (map label_of fields)
IsDefined (defined.VariantOf cases) = (0 < length cases) × AreLabels (map label_of cases)
IsDefined (defined.TupleOf parts) = 0 < length parts
IsDefined (defined.FlagsOf labels) = (0 < length labels) × (length labels ≤ 32) × AreLabels labels
IsDefined (defined.EnumOf labels) = (0 < length labels) × AreLabels labels
IsDefined (defined.Primitive p) = Unit {0}
IsDefined (defined.ListOf t) = Unit {0}
IsDefined (defined.OptionOf t) = Unit {0}
IsDefined (defined.ResultOf ok err) = Unit {0}
IsDefined (defined.Own i) = Unit {0}
IsDefined (defined.Borrow i) = Unit {0}

abbrev pub IsFunc : FuncType → Type 0
IsFunc f = AreLabels (map label_of f.params)

abbrev pub IsAlias : Alias → Type 0
IsAlias (alias.Export kind from name) = 0 < length name
IsAlias (alias.CoreExport kind from name) = Unit {0}
IsAlias (alias.Outer kind count index) = is_outer kind ≡ true

abbrev pub IsCoreDesc : CoreDesc → Type 0
IsCoreDesc (core_item.Func i) = Unit {0}
IsCoreDesc (core_item.Table element limits) = is_reference element ≡ true
IsCoreDesc (core_item.Memory limits) = Unit {0}
IsCoreDesc (core_item.Global v is_mutable) = Unit {0}

abbrev mutual
  pub IsCore : CoreTree → Type 0
  IsCore (core.Func params results) = Unit {0}
  IsCore (core.Module ds) = AreModuleDecls ds

  pub IsModuleDecl : ModuleDeclTree → Type 0
  IsModuleDecl (core.Import m name item) = IsCoreDesc item
  IsModuleDecl (core.CoreTy t) = IsCore t
  IsModuleDecl (core.OuterAlias count index) = Unit {0}
  IsModuleDecl (core.Export name item) = IsCoreDesc item

  pub AreModuleDecls : ModuleDecls → Type 0
  AreModuleDecls core.none = Unit {0}
  AreModuleDecls (core.more d ds) = IsModuleDecl d × AreModuleDecls ds

abbrev mutual
  pub IsDefinition : TypeTree → Type 0
  IsDefinition (tree.Defined d) = IsDefined d
  IsDefinition (tree.Func f) = IsFunc f
  IsDefinition (tree.Component ds) = AreDecls true ds
  IsDefinition (tree.Instance ds) = AreDecls false ds
  IsDefinition (tree.Resource destructor) = Unit {0}

  -- a declaration, where there may be imports, or not
  pub IsDecl : Bool → DeclTree → Type 0
  IsDecl imports (tree.CoreTy t) = IsCore t
  IsDecl imports (tree.Ty t) = (is_resource t ≡ false) × IsDefinition t
  IsDecl imports (tree.Aliased a) = (is_declared a ≡ true) × IsAlias a
  IsDecl imports (tree.Import name ty) = (imports ≡ true) × (0 < length name)
  IsDecl imports (tree.Export name ty) = 0 < length name

  pub AreDecls : Bool → Decls → Type 0
  AreDecls imports tree.none = Unit {0}
  AreDecls imports (tree.more d ds) = IsDecl imports d × AreDecls imports ds
