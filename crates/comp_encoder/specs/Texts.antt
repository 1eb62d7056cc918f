-- That the names in a type are UTF-8, as texts are.
use Rattle.std.specs.Prelude.{ℕ, List, All}
use Rattle.std.specs.Str.{IsUtf8}
use Rattle.comp_format.specs.declared.types.DefinedType.{DefinedType}
use Rattle.comp_format.specs.declared.types.DefinedType.TheVariants as defined
use Rattle.comp_format.specs.declared.types.FuncType.{FuncType}
use Rattle.comp_format.specs.declared.types.Alias.{Alias}
use Rattle.comp_format.specs.declared.types.Alias.TheVariants as alias
use Rattle.comp_format.specs.CoreTypes as core
use Rattle.comp_format.specs.CoreTypes.{CoreTree, ModuleDeclTree, ModuleDecls}
use Rattle.comp_format.specs.Definitions as tree
use Rattle.comp_format.specs.Definitions.{TypeTree, DeclTree, Decls}

-- the label of a part
abbrev pub HasText : {X : Type 0} → List ℕ × X → Type 0
HasText part = IsUtf8 part.0

abbrev pub TextsOfDefined : DefinedType → Type 0
TextsOfDefined (defined.RecordOf fields) = All HasText fields
TextsOfDefined (defined.VariantOf cases) = All HasText cases
TextsOfDefined (defined.FlagsOf labels) = All IsUtf8 labels
TextsOfDefined (defined.EnumOf labels) = All IsUtf8 labels
TextsOfDefined (defined.Primitive p) = Unit {0}
TextsOfDefined (defined.ListOf t) = Unit {0}
TextsOfDefined (defined.TupleOf parts) = Unit {0}
TextsOfDefined (defined.OptionOf t) = Unit {0}
TextsOfDefined (defined.ResultOf ok err) = Unit {0}
TextsOfDefined (defined.Own i) = Unit {0}
TextsOfDefined (defined.Borrow i) = Unit {0}

abbrev pub TextsOfFunc : FuncType → Type 0
TextsOfFunc f = All HasText f.params

abbrev pub TextsOfAlias : Alias → Type 0
TextsOfAlias (alias.Export kind from name) = IsUtf8 name
TextsOfAlias (alias.CoreExport kind from name) = IsUtf8 name
TextsOfAlias (alias.Outer kind count index) = Unit {0}

unfoldable mutual
  pub TextsOfCore : CoreTree → Type 0
  TextsOfCore (core.Func params results) = Unit {0}
  TextsOfCore (core.Module ds) = TextsOfModule ds

  pub TextsOfModuleDecl : ModuleDeclTree → Type 0
  TextsOfModuleDecl (core.Import m name item) = IsUtf8 m × IsUtf8 name
  TextsOfModuleDecl (core.CoreTy t) = TextsOfCore t
  TextsOfModuleDecl (core.OuterAlias count index) = Unit {0}
  TextsOfModuleDecl (core.Export name item) = IsUtf8 name

  pub TextsOfModule : ModuleDecls → Type 0
  TextsOfModule core.none = Unit {0}
  TextsOfModule (core.more d ds) = TextsOfModuleDecl d × TextsOfModule ds

unfoldable mutual
  pub TextsOfType : TypeTree → Type 0
  TextsOfType (tree.Defined d) = TextsOfDefined d
  TextsOfType (tree.Func f) = TextsOfFunc f
  TextsOfType (tree.Component ds) = TextsOfDecls ds
  TextsOfType (tree.Instance ds) = TextsOfDecls ds
  TextsOfType (tree.Resource destructor) = Unit {0}

  pub TextsOfDecl : DeclTree → Type 0
  TextsOfDecl (tree.CoreTy t) = TextsOfCore t
  TextsOfDecl (tree.Ty t) = TextsOfType t
  TextsOfDecl (tree.Aliased a) = TextsOfAlias a
  TextsOfDecl (tree.Import name ty) = IsUtf8 name
  TextsOfDecl (tree.Export name ty) = IsUtf8 name

  pub TextsOfDecls : Decls → Type 0
  TextsOfDecls tree.none = Unit {0}
  TextsOfDecls (tree.more d ds) = TextsOfDecl d × TextsOfDecls ds
