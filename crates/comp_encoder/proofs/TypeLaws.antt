-- Types that have a form, whose texts are UTF-8 and whose largest number is small, have a written form.
use Rattle.std.proofs.Common.{◌≡◌, ℕ, ◌<◌, ◌≤◌, ◌^◌, Bool, List, [], ◌∷◌, length, map, Option, All, arith}
use Rattle.std.specs.Str.{IsUtf8}
use Rattle.std.proofs.lemmas.List.{length-map, get_or-map}
use Rattle.comp_format.specs.declared.core_types.Limits.{Limits}
use Rattle.comp_format.specs.declared.core_types.CoreDesc.{CoreDesc}
use Rattle.comp_format.specs.declared.core_types.CoreDesc.TheVariants as core_item
use Rattle.comp_format.specs.declared.types.ValType.{ValType}
use Rattle.comp_format.specs.declared.types.ValType.TheVariants as value
use Rattle.comp_format.specs.declared.types.DefinedType.{DefinedType}
use Rattle.comp_format.specs.declared.types.DefinedType.TheVariants as defined
use Rattle.comp_format.specs.declared.types.FuncType.{FuncType}
use Rattle.comp_format.specs.declared.types.Alias.{Alias}
use Rattle.comp_format.specs.declared.types.Alias.TheVariants as alias
use Rattle.comp_format.specs.Types.{label_of}
use Rattle.comp_format.specs.CoreTypes as core
use Rattle.comp_format.specs.CoreTypes.{CoreTree, ModuleDeclTree, ModuleDecls}
use Rattle.comp_format.specs.Definitions as tree
use Rattle.comp_format.specs.Definitions.{TypeTree, DeclTree, Decls}
use Rattle.comp_format.specs.Fits.{FitsName, FitsVal, FitsField, FitsCase, FitsLabelled, FitsDefined, FitsFunc, FitsAlias, FitsLimits, FitsCoreDesc, FitsCore, FitsModuleDecl, FitsModule, FitsDefinition, FitsDecl, FitsDecls}
use Rattle.comp_format.specs.Forms.{AreLabels, IsDefined, IsFunc, IsAlias, IsCoreDesc, IsCore, IsModuleDecl, AreModuleDecls, IsDefinition, IsDecl, AreDecls}
use Rattle.comp_encoder.specs.Largest.{vector_largest, alias_largest, value_largest, field_largest, case_largest, defined_largest, func_largest, limits_largest, core_desc_largest, core_largest, module_decl_largest, module_largest, definition_largest, decl_largest, decls_largest}
use Rattle.comp_encoder.specs.Texts.{HasText, TextsOfDefined, TextsOfFunc, TextsOfAlias, TextsOfCore, TextsOfModuleDecl, TextsOfModule, TextsOfType, TextsOfDecl, TextsOfDecls}
use Rattle.comp_encoder.proofs.LargestLaws.{each_fits, optional_fits, description_fits}

value_fits : (t : ValType) → value_largest t < 2 ^ 32 → FitsVal t
value_fits (value.Primitive p) small = tt
value_fits (value.Index i) small = small

-- a name, where it is a text and short
name_fits : (name : List ℕ) → 0 < length name → IsUtf8 name → length name < 2 ^ 32 → FitsName name
name_fits name named text short = record { is_text = text; not_empty = named; short = short }

-- values under labels
module _ {X : Type 0} (label : X → List ℕ) (one : X → ℕ) (Fits : X → Type 0) (fits : (x : X) → FitsName (label x) → one x < 2 ^ 32 → Fits x) (labelled : (x : X) → length (label x) ≤ one x) where
  labels_fit : (xs : List X) → AreLabels (map label xs) → All (λ x. IsUtf8 (label x)) xs → vector_largest one xs < 2 ^ 32 → FitsLabelled label Fits xs
  labels_fit xs are texts small = record {
    differ = are.differ;
    short = omega (arith, small);
    each =
        each_fits one (λ x. (0 < length (label x)) × IsUtf8 (label x)) Fits
        (λ x h le. fits x (name_fits (label x) h.0 h.1 (omega (arith, labelled x, le))) le) xs
        (λ k d lt. (rw (← get_or-map label xs k d (label d) lt) (are.named k (label d) (omega (arith, length-map xs label, lt))), texts k d lt)) (omega (arith, small));
  }

fields_fit : (fields : List (List ℕ × ValType)) → AreLabels (map label_of fields) → All HasText fields → vector_largest field_largest fields < 2 ^ 32 → FitsLabelled label_of FitsField fields
fields_fit = labels_fit label_of field_largest FitsField (λ f name le. (name, value_fits f.1 (omega (arith, le)))) (λ f. omega arith)

cases_fit : (cases : List (List ℕ × Option ValType)) → AreLabels (map label_of cases) → All HasText cases → vector_largest case_largest cases < 2 ^ 32 → FitsLabelled label_of FitsCase cases
cases_fit = labels_fit label_of case_largest FitsCase (λ a_case name le. (name, optional_fits value_largest FitsVal value_fits a_case.1 (omega (arith, le)))) (λ a_case. omega arith)

map_same : (labels : List (List ℕ)) → map (λ label. label) labels ≡ labels
map_same [] = λ i. []
map_same (label ∷ labels) = λ i. label ∷ map_same labels i

names_fit : (labels : List (List ℕ)) → AreLabels labels → All IsUtf8 labels → vector_largest length labels < 2 ^ 32 → FitsLabelled (λ label. label) FitsName labels
names_fit labels are texts small = labels_fit (λ label. label) length FitsName (λ label name le. name) (λ label. omega arith) labels (rw map_same are) texts small

pub defined_fits : (d : DefinedType) → IsDefined d → TextsOfDefined d → defined_largest d < 2 ^ 32 → FitsDefined d
defined_fits (defined.Primitive p) is texts small = tt
defined_fits (defined.RecordOf fields) is texts small = (is.0, fields_fit fields is.1 texts small)
defined_fits (defined.VariantOf cases) is texts small = (is.0, cases_fit cases is.1 texts small)
defined_fits (defined.ListOf t) is texts small = value_fits t small
defined_fits (defined.TupleOf parts) is texts small = (is, omega (arith, small), each_fits value_largest (λ t. Unit {0}) FitsVal (λ t h le. value_fits t le) parts (λ k d lt. tt) (omega (arith, small)))
defined_fits (defined.FlagsOf labels) is texts small = (is.0, is.1, names_fit labels is.2 texts small)
defined_fits (defined.EnumOf labels) is texts small = (is.0, names_fit labels is.1 texts small)
defined_fits (defined.OptionOf t) is texts small = value_fits t small
defined_fits (defined.ResultOf ok err) is texts small = (optional_fits value_largest FitsVal value_fits ok (omega (arith, small)), optional_fits value_largest FitsVal value_fits err (omega (arith, small)))
defined_fits (defined.Own i) is texts small = small
defined_fits (defined.Borrow i) is texts small = small

pub func_fits : (f : FuncType) → IsFunc f → TextsOfFunc f → func_largest f < 2 ^ 32 → FitsFunc f
func_fits f is texts small = record {
  params = fields_fit f.params is texts (omega (arith, small));
  result = optional_fits value_largest FitsVal value_fits f.result (omega (arith, small));
}

alias_fits : (a : Alias) → IsAlias a → TextsOfAlias a → alias_largest a < 2 ^ 32 → FitsAlias a
alias_fits (alias.Export kind from name) is texts small = (omega (arith, small), name_fits name is texts (omega (arith, small)))
alias_fits (alias.CoreExport kind from name) is texts small = (omega (arith, small), record { is_text = texts; short = omega (arith, small) })
alias_fits (alias.Outer kind count index) is texts small = (is, omega (arith, small), omega (arith, small))

limits_fit : (l : Limits) → limits_largest l < 2 ^ 32 → FitsLimits l
limits_fit l small = record { min = omega (arith, small); max = optional_fits (λ n. n) (λ n. n < 2 ^ 32) (λ n le. le) l.max (omega (arith, small)) }

core_desc_fits : (d : CoreDesc) → IsCoreDesc d → core_desc_largest d < 2 ^ 32 → FitsCoreDesc d
core_desc_fits (core_item.Func i) is small = small
core_desc_fits (core_item.Table element limits) is small = (is, limits_fit limits small)
core_desc_fits (core_item.Memory limits) is small = limits_fit limits small
core_desc_fits (core_item.Global v is_mutable) is small = tt

mutual
  unfolding core_largest module_decl_largest module_largest TextsOfCore TextsOfModuleDecl TextsOfModule

  pub core_fits : (t : CoreTree) → IsCore t → TextsOfCore t → core_largest t < 2 ^ 32 → FitsCore t
  core_fits (core.Func params results) is texts small = (omega (arith, small), omega (arith, small))
  core_fits (core.Module ds) is texts small = (omega (arith, small), module_fits ds is texts (omega (arith, small)))

  module_decl_fits : (d : ModuleDeclTree) → IsModuleDecl d → TextsOfModuleDecl d → module_decl_largest d < 2 ^ 32 → FitsModuleDecl d
  module_decl_fits (core.Import m name item) is texts small =
      (record { is_text = texts.0; short = omega (arith, small) }, record { is_text = texts.1; short = omega (arith, small) }, core_desc_fits item is (omega (arith, small)))
  module_decl_fits (core.CoreTy t) is texts small = core_fits t is texts small
  module_decl_fits (core.OuterAlias count index) is texts small = (omega (arith, small), omega (arith, small))
  module_decl_fits (core.Export name item) is texts small = (record { is_text = texts; short = omega (arith, small) }, core_desc_fits item is (omega (arith, small)))

  module_fits : (ds : ModuleDecls) → AreModuleDecls ds → TextsOfModule ds → module_largest ds < 2 ^ 32 → FitsModule ds
  module_fits core.none is texts small = tt
  module_fits (core.more d ds) is texts small = (module_decl_fits d is.0 texts.0 (omega (arith, small)), module_fits ds is.1 texts.1 (omega (arith, small)))

mutual
  unfolding definition_largest decl_largest decls_largest TextsOfType TextsOfDecl TextsOfDecls

  pub definition_fits : (t : TypeTree) → IsDefinition t → TextsOfType t → definition_largest t < 2 ^ 32 → FitsDefinition t
  definition_fits (tree.Defined d) is texts small = defined_fits d is texts small
  definition_fits (tree.Func f) is texts small = func_fits f is texts small
  definition_fits (tree.Component ds) is texts small = (omega (arith, small), decls_fit ds _ is texts (omega (arith, small)))
  definition_fits (tree.Instance ds) is texts small = (omega (arith, small), decls_fit ds _ is texts (omega (arith, small)))
  definition_fits (tree.Resource destructor) is texts small = optional_fits (λ n. n) (λ n. n < 2 ^ 32) (λ n le. le) destructor small

  decl_fits : (d : DeclTree) (imports : Bool) → IsDecl imports d → TextsOfDecl d → decl_largest d < 2 ^ 32 → FitsDecl imports d
  decl_fits (tree.CoreTy t) imports is texts small = core_fits t is texts small
  decl_fits (tree.Ty t) imports is texts small = (is.0, definition_fits t is.1 texts small)
  decl_fits (tree.Aliased a) imports is texts small = (is.0, alias_fits a is.1 texts small)
  decl_fits (tree.Import name ty) imports is texts small = (is.0, name_fits name is.1 texts (omega (arith, small)), description_fits ty (omega (arith, small)))
  decl_fits (tree.Export name ty) imports is texts small = (name_fits name is texts (omega (arith, small)), description_fits ty (omega (arith, small)))

  decls_fit : (ds : Decls) (imports : Bool) → AreDecls imports ds → TextsOfDecls ds → decls_largest ds < 2 ^ 32 → FitsDecls imports ds
  decls_fit tree.none imports is texts small = tt
  decls_fit (tree.more d ds) imports is texts small = (decl_fits d imports is.0 texts.0 (omega (arith, small)), decls_fit ds imports is.1 texts.1 (omega (arith, small)))
