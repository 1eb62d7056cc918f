-- What has a written form: texts that are names, labels that differ, and numbers and counts below 2 ^ 32.
use Rattle.std.specs.Prelude.{◌≡◌, ℕ, ◌<◌, ◌≤◌, ◌^◌, Bool, true, false, List, ◌++◌, length, map, All, IfSome, Option}
use Rattle.std.specs.List.{IsDistinct}
use Rattle.std.specs.Str.{IsUtf8, bytes_eq}
use Rattle.comp_format.specs.declared.core_types.Limits.{Limits}
use Rattle.comp_format.specs.declared.core_types.CoreDesc.{CoreDesc}
use Rattle.comp_format.specs.declared.core_types.CoreDesc.TheVariants as core_item
use Rattle.comp_format.specs.declared.types.ValType.{ValType}
use Rattle.comp_format.specs.declared.types.ValType.TheVariants as value
use Rattle.comp_format.specs.declared.types.DefinedType.{DefinedType}
use Rattle.comp_format.specs.declared.types.DefinedType.TheVariants as defined
use Rattle.comp_format.specs.declared.types.FuncType.{FuncType}
use Rattle.comp_format.specs.declared.types.CoreSort.{CoreSort}
use Rattle.comp_format.specs.declared.types.TypeRef.{TypeRef}
use Rattle.comp_format.specs.declared.types.TypeRef.TheVariants as description
use Rattle.comp_format.specs.declared.types.Arg.{Arg}
use Rattle.comp_format.specs.declared.types.InstanceItem.{InstanceItem}
use Rattle.comp_format.specs.declared.types.InstanceItem.TheVariants as instance
use Rattle.comp_format.specs.declared.types.CoreInstance.{CoreInstance}
use Rattle.comp_format.specs.declared.types.CoreInstance.TheVariants as core_instance
use Rattle.comp_format.specs.declared.types.Alias.{Alias}
use Rattle.comp_format.specs.declared.types.Alias.TheVariants as alias
use Rattle.comp_format.specs.declared.types.Canon.{Canon}
use Rattle.comp_format.specs.declared.types.Canon.TheVariants as canon
use Rattle.comp_format.specs.declared.types.CanonOption.{CanonOption}
use Rattle.comp_format.specs.declared.types.CanonOption.TheVariants as option
use Rattle.comp_format.specs.Types.{label_of}
use Rattle.comp_format.specs.Parts.{is_outer}
use Rattle.comp_format.specs.CoreTypes as core
use Rattle.comp_format.specs.CoreTypes.{CoreTree, ModuleDeclTree, ModuleDecls, is_reference, module_count}
use Rattle.comp_format.specs.Definitions as tree
use Rattle.comp_format.specs.Definitions.{TypeTree, DeclTree, Decls, is_resource, is_declared, decl_count}
use Rattle.comp_format.specs.Items.{ImportTree, ExportTree, ItemTree, Custom, CoreModule, CoreMade, CoreTy, Component, Instance, Aliased, Ty, Canonical, Import, Export}
use Rattle.comp_format.specs.Sections.{Reads, core_header}

pub record FitsName (text : List ℕ) : Type 0 where
  pub is_text : IsUtf8 text
  pub not_empty : 0 < length text
  pub short : length text < 2 ^ 32

-- a name that may be empty
pub record FitsAnyName (text : List ℕ) : Type 0 where
  pub is_text : IsUtf8 text
  pub short : length text < 2 ^ 32

abbrev pub FitsType : TypeRef → Type 0
FitsType (description.Module i) = i < 2 ^ 32
FitsType (description.Func i) = i < 2 ^ 32
FitsType (description.TyEqual i) = i < 2 ^ 32
FitsType description.TyFresh = Unit {0}
FitsType (description.Component i) = i < 2 ^ 32
FitsType (description.Instance i) = i < 2 ^ 32

pub record FitsArg (arg : Arg) : Type 0 where
  pub name : FitsName arg.name
  pub index : arg.index < 2 ^ 32

abbrev pub FitsInstance : InstanceItem → Type 0
FitsInstance (instance.Instantiate c args) = (c < 2 ^ 32) × (length args < 2 ^ 32) × All FitsArg args
FitsInstance (instance.Exports members) = (length members < 2 ^ 32) × All FitsArg members

abbrev pub FitsCoreArg : List ℕ × ℕ → Type 0
FitsCoreArg arg = FitsAnyName arg.0 × (arg.1 < 2 ^ 32)

abbrev pub FitsCoreMember : List ℕ × CoreSort × ℕ → Type 0
FitsCoreMember member = FitsAnyName member.0 × (member.2 < 2 ^ 32)

abbrev pub FitsCoreInstance : CoreInstance → Type 0
FitsCoreInstance (core_instance.Instantiate m args) = (m < 2 ^ 32) × (length args < 2 ^ 32) × All FitsCoreArg args
FitsCoreInstance (core_instance.Exports members) = (length members < 2 ^ 32) × All FitsCoreMember members

abbrev pub FitsAlias : Alias → Type 0
FitsAlias (alias.Export kind from name) = (from < 2 ^ 32) × FitsName name
FitsAlias (alias.CoreExport kind from name) = (from < 2 ^ 32) × FitsAnyName name
FitsAlias (alias.Outer kind count index) = (is_outer kind ≡ true) × (count < 2 ^ 32) × (index < 2 ^ 32)

pub record FitsImport (i : ImportTree) : Type 0 where
  pub name : FitsName i.name
  pub ty : FitsType i.ty

pub record FitsExport (e : ExportTree) : Type 0 where
  pub name : FitsName e.name
  pub index : e.index < 2 ^ 32
  pub ty : IfSome e.ty FitsType

-- bytes that are a component
abbrev pub IsComponent : List ℕ → Type 0
IsComponent bytes = (items : List ItemTree) × Reads bytes items

abbrev pub FitsVal : ValType → Type 0
FitsVal (value.Primitive p) = Unit {0}
FitsVal (value.Index i) = i < 2 ^ 32

abbrev pub FitsField : List ℕ × ValType → Type 0
FitsField field = FitsName field.0 × FitsVal field.1

abbrev pub FitsCase : List ℕ × Option ValType → Type 0
FitsCase a_case = FitsName a_case.0 × IfSome a_case.1 FitsVal

-- values under labels that differ
pub record FitsLabelled {X : Type 0} (label : X → List ℕ) (Fits : X → Type 0) (xs : List X) : Type 0 where
  pub differ : IsDistinct bytes_eq (map label xs)
  pub short : length xs < 2 ^ 32
  pub each : All Fits xs

abbrev pub FitsLabels : List (List ℕ) → Type 0
FitsLabels labels = FitsLabelled (λ label. label) FitsName labels

-- records, variants, tuples, flags and enums have at least one part, and flags at most 32
abbrev pub FitsDefined : DefinedType → Type 0
FitsDefined (defined.Primitive p) = Unit {0}
FitsDefined (defined.RecordOf fields) = (0 < length fields) × FitsLabelled label_of FitsField fields
FitsDefined (defined.VariantOf cases) = (0 < length cases) × FitsLabelled label_of FitsCase cases
FitsDefined (defined.ListOf t) = FitsVal t
FitsDefined (defined.TupleOf parts) = (0 < length parts) × (length parts < 2 ^ 32) × All FitsVal parts
FitsDefined (defined.FlagsOf labels) = (0 < length labels) × (length labels ≤ 32) × FitsLabels labels
FitsDefined (defined.EnumOf labels) = (0 < length labels) × FitsLabels labels
FitsDefined (defined.OptionOf t) = FitsVal t
FitsDefined (defined.ResultOf ok err) = IfSome ok FitsVal × IfSome err FitsVal
FitsDefined (defined.Own i) = i < 2 ^ 32
FitsDefined (defined.Borrow i) = i < 2 ^ 32

pub record FitsFunc (f : FuncType) : Type 0 where
  pub params : FitsLabelled label_of FitsField f.params
  pub result : IfSome f.result FitsVal

pub record FitsLimits (l : Limits) : Type 0 where
  pub min : l.min < 2 ^ 32
  pub max : IfSome l.max (λ n. n < 2 ^ 32)

abbrev pub FitsCoreDesc : CoreDesc → Type 0
FitsCoreDesc (core_item.Func i) = i < 2 ^ 32
FitsCoreDesc (core_item.Table element limits) = (is_reference element ≡ true) × FitsLimits limits
FitsCoreDesc (core_item.Memory limits) = FitsLimits limits
FitsCoreDesc (core_item.Global v is_mutable) = Unit {0}

abbrev mutual
  pub FitsCore : CoreTree → Type 0
  FitsCore (core.Func params results) = (length params < 2 ^ 32) × (length results < 2 ^ 32)
  FitsCore (core.Module ds) = (module_count ds < 2 ^ 32) × FitsModule ds

  pub FitsModuleDecl : ModuleDeclTree → Type 0
  FitsModuleDecl (core.Import m name item) = FitsAnyName m × FitsAnyName name × FitsCoreDesc item
  FitsModuleDecl (core.CoreTy t) = FitsCore t
  FitsModuleDecl (core.OuterAlias count index) = (count < 2 ^ 32) × (index < 2 ^ 32)
  FitsModuleDecl (core.Export name item) = FitsAnyName name × FitsCoreDesc item

  pub FitsModule : ModuleDecls → Type 0
  FitsModule core.none = Unit {0}
  FitsModule (core.more d ds) = FitsModuleDecl d × FitsModule ds

abbrev mutual
  pub FitsDefinition : TypeTree → Type 0
  FitsDefinition (tree.Defined d) = FitsDefined d
  FitsDefinition (tree.Func f) = FitsFunc f
  FitsDefinition (tree.Component ds) = (decl_count ds < 2 ^ 32) × FitsDecls true ds
  FitsDefinition (tree.Instance ds) = (decl_count ds < 2 ^ 32) × FitsDecls false ds
  FitsDefinition (tree.Resource destructor) = IfSome destructor (λ n. n < 2 ^ 32)

  -- a declaration, where there may be imports, or not
  pub FitsDecl : Bool → DeclTree → Type 0
  FitsDecl imports (tree.CoreTy t) = FitsCore t
  FitsDecl imports (tree.Ty t) = (is_resource t ≡ false) × FitsDefinition t
  FitsDecl imports (tree.Aliased a) = (is_declared a ≡ true) × FitsAlias a
  FitsDecl imports (tree.Import name ty) = (imports ≡ true) × FitsName name × FitsType ty
  FitsDecl imports (tree.Export name ty) = FitsName name × FitsType ty

  pub FitsDecls : Bool → Decls → Type 0
  FitsDecls imports tree.none = Unit {0}
  FitsDecls imports (tree.more d ds) = FitsDecl imports d × FitsDecls imports ds

abbrev pub FitsOption : CanonOption → Type 0
FitsOption (option.Encoding code) = code < 3
FitsOption (option.Memory i) = i < 2 ^ 32
FitsOption (option.Realloc i) = i < 2 ^ 32
FitsOption (option.PostReturn i) = i < 2 ^ 32

abbrev pub FitsCanon : Canon → Type 0
FitsCanon (canon.Lift f options ty) = (f < 2 ^ 32) × (length options < 2 ^ 32) × All FitsOption options × (ty < 2 ^ 32)
FitsCanon (canon.Lower f options) = (f < 2 ^ 32) × (length options < 2 ^ 32) × All FitsOption options
FitsCanon (canon.ResourceNew ty) = ty < 2 ^ 32
FitsCanon (canon.ResourceDrop ty) = ty < 2 ^ 32
FitsCanon (canon.ResourceRep ty) = ty < 2 ^ 32

-- bytes that are a core module, as far as components look into it
abbrev pub IsCoreModule : List ℕ → Type 0
IsCoreModule bytes = (after : List ℕ) × (bytes ≡ core_header ++ after)

abbrev pub FitsItem : ItemTree → Type 0
FitsItem (Custom name bytes) = FitsAnyName name
FitsItem (CoreModule bytes) = IsCoreModule bytes
FitsItem (CoreMade item) = FitsCoreInstance item
FitsItem (CoreTy item) = FitsCore item
FitsItem (Component bytes) = IsComponent bytes
FitsItem (Instance item) = FitsInstance item
FitsItem (Aliased item) = FitsAlias item
FitsItem (Ty item) = FitsDefinition item
FitsItem (Canonical item) = FitsCanon item
FitsItem (Import item) = FitsImport item
FitsItem (Export item) = FitsExport item
