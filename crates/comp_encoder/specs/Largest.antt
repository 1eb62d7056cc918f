-- The largest length, count or index that is written for a part of a component: what has to be below 2 ^ 32.
use Rattle.std.specs.Prelude.{ℕ, max, List, [], ◌∷◌, length, Option, Some, None}
use Rattle.comp_format.specs.declared.core_types.Limits.{Limits}
use Rattle.comp_format.specs.declared.core_types.CoreDesc.{CoreDesc}
use Rattle.comp_format.specs.declared.core_types.CoreDesc.TheVariants as core_item
use Rattle.comp_format.specs.declared.types.ValType.{ValType}
use Rattle.comp_format.specs.declared.types.ValType.TheVariants as value
use Rattle.comp_format.specs.declared.types.DefinedType.{DefinedType}
use Rattle.comp_format.specs.declared.types.DefinedType.TheVariants as defined
use Rattle.comp_format.specs.declared.types.FuncType.{FuncType}
use Rattle.comp_format.specs.declared.types.TypeRef.{TypeRef}
use Rattle.comp_format.specs.declared.types.TypeRef.TheVariants as description
use Rattle.comp_format.specs.declared.types.Arg.{Arg}
use Rattle.comp_format.specs.declared.types.Alias.{Alias}
use Rattle.comp_format.specs.declared.types.Alias.TheVariants as alias
use Rattle.comp_format.specs.declared.types.CanonOption.{CanonOption}
use Rattle.comp_format.specs.declared.types.CanonOption.TheVariants as option
use Rattle.comp_format.specs.CoreTypes as core
use Rattle.comp_format.specs.CoreTypes.{CoreTree, ModuleDeclTree, ModuleDecls, module_count}
use Rattle.comp_format.specs.Definitions as tree
use Rattle.comp_format.specs.Definitions.{TypeTree, DeclTree, Decls, decl_count}

-- of some values, and of a vector of them, which is their number too
abbrev pub largest_among : {X : Type 0} → (X → ℕ) → List X → ℕ
largest_among one [] = 0
largest_among one (x ∷ xs) = max (one x) (largest_among one xs)

abbrev pub vector_largest : {X : Type 0} → (X → ℕ) → List X → ℕ
vector_largest one xs = max (length xs) (largest_among one xs)

abbrev pub optional_largest : {X : Type 0} → (X → ℕ) → Option X → ℕ
optional_largest one None = 0
optional_largest one (Some x) = one x

abbrev pub description_largest : TypeRef → ℕ
description_largest (description.Module i) = i
description_largest (description.Func i) = i
description_largest (description.TyEqual i) = i
description_largest description.TyFresh = 0
description_largest (description.Component i) = i
description_largest (description.Instance i) = i

abbrev pub arg_largest : Arg → ℕ
arg_largest arg = max (length arg.name) arg.index

abbrev pub alias_largest : Alias → ℕ
alias_largest (alias.Export kind from name) = max from (length name)
alias_largest (alias.CoreExport kind from name) = max from (length name)
alias_largest (alias.Outer kind count index) = max count index

abbrev pub option_largest : CanonOption → ℕ
option_largest (option.Encoding code) = 0
option_largest (option.Memory i) = i
option_largest (option.Realloc i) = i
option_largest (option.PostReturn i) = i

abbrev pub value_largest : ValType → ℕ
value_largest (value.Primitive p) = 0
value_largest (value.Index i) = i

abbrev pub field_largest : List ℕ × ValType → ℕ
field_largest field = max (length field.0) (value_largest field.1)

abbrev pub case_largest : List ℕ × Option ValType → ℕ
case_largest a_case = max (length a_case.0) (optional_largest value_largest a_case.1)

abbrev pub defined_largest : DefinedType → ℕ
defined_largest (defined.Primitive p) = 0
defined_largest (defined.RecordOf fields) = vector_largest field_largest fields
defined_largest (defined.VariantOf cases) = vector_largest case_largest cases
defined_largest (defined.ListOf t) = value_largest t
defined_largest (defined.TupleOf parts) = vector_largest value_largest parts
defined_largest (defined.FlagsOf labels) = vector_largest length labels
defined_largest (defined.EnumOf labels) = vector_largest length labels
defined_largest (defined.OptionOf t) = value_largest t
defined_largest (defined.ResultOf ok err) = max (optional_largest value_largest ok) (optional_largest value_largest err)
defined_largest (defined.Own i) = i
defined_largest (defined.Borrow i) = i

abbrev pub func_largest : FuncType → ℕ
func_largest f = max (vector_largest field_largest f.params) (optional_largest value_largest f.result)

abbrev pub limits_largest : Limits → ℕ
limits_largest l = max l.min (optional_largest (λ max. max) l.max)

abbrev pub core_desc_largest : CoreDesc → ℕ
core_desc_largest (core_item.Func i) = i
core_desc_largest (core_item.Table element limits) = limits_largest limits
core_desc_largest (core_item.Memory limits) = limits_largest limits
core_desc_largest (core_item.Global v is_mutable) = 0

unfoldable mutual
  pub core_largest : CoreTree → ℕ
  core_largest (core.Func params results) = max (length params) (length results)
  core_largest (core.Module ds) = max (module_count ds) (module_largest ds)

  pub module_decl_largest : ModuleDeclTree → ℕ
  module_decl_largest (core.Import m name item) = max (max (length m) (length name)) (core_desc_largest item)
  module_decl_largest (core.CoreTy t) = core_largest t
  module_decl_largest (core.OuterAlias count index) = max count index
  module_decl_largest (core.Export name item) = max (length name) (core_desc_largest item)

  pub module_largest : ModuleDecls → ℕ
  module_largest core.none = 0
  module_largest (core.more d ds) = max (module_decl_largest d) (module_largest ds)

unfoldable mutual
  pub definition_largest : TypeTree → ℕ
  definition_largest (tree.Defined d) = defined_largest d
  definition_largest (tree.Func f) = func_largest f
  definition_largest (tree.Component ds) = max (decl_count ds) (decls_largest ds)
  definition_largest (tree.Instance ds) = max (decl_count ds) (decls_largest ds)
  definition_largest (tree.Resource destructor) = optional_largest (λ index. index) destructor

  pub decl_largest : DeclTree → ℕ
  decl_largest (tree.CoreTy t) = core_largest t
  decl_largest (tree.Ty t) = definition_largest t
  decl_largest (tree.Aliased a) = alias_largest a
  decl_largest (tree.Import name ty) = max (length name) (description_largest ty)
  decl_largest (tree.Export name ty) = max (length name) (description_largest ty)

  pub decls_largest : Decls → ℕ
  decls_largest tree.none = 0
  decls_largest (tree.more d ds) = max (decl_largest d) (decls_largest ds)
