-- What was read has a written form.
use Rattle.std.proofs.Common.{◌≡◌, ℕ, ◌<◌, ◌^◌, Bool, true, false, List, [], ◌∷◌, ◌++◌, length, map, Option, Some, None, All, refl, sym, subst, ◌∙◌, inl, inr}
use Rattle.std.specs.Prelude.{IfSome}
use Rattle.std.specs.List.{AllByRecursion}
use Rattle.std.proofs.lemmas.List.Elements.{All-from_recursion}
use Rattle.comp_format.specs.declared.core_types.CoreDesc.TheVariants as core_item
use Rattle.comp_format.specs.declared.types.ValType.TheVariants as value
use Rattle.comp_format.specs.declared.types.DefinedType.TheVariants as defined
use Rattle.comp_format.specs.declared.types.TypeRef.TheVariants as description
use Rattle.comp_format.specs.declared.types.InstanceItem.TheVariants as instance
use Rattle.comp_format.specs.declared.types.CoreInstance.TheVariants as core_instance
use Rattle.comp_format.specs.declared.types.Alias.TheVariants as alias
use Rattle.comp_format.specs.declared.types.Canon.TheVariants as canon
use Rattle.comp_format.specs.declared.types.CanonOption.TheVariants as option
use Rattle.comp_format.specs.Numbers.{FormOf, Then, Number}
use Rattle.comp_format.specs.Vectors.{Many, Vector, Name, AnyName, Optional, Labelled}
use Rattle.comp_format.specs.Types.{ValForm, FieldForm, CaseForm, DefinedForm, ResultForm, FuncForm, label_of}
use Rattle.comp_format.specs.CoreTypes as core
use Rattle.comp_format.specs.CoreTypes.{CoreTree, ModuleDeclTree, ModuleDecls, CoreForm, CoreDescForm, LimitsForm, LimitsOf, ModuleDeclForm, ModuleForm}
use Rattle.comp_format.specs.Definitions as tree
use Rattle.comp_format.specs.Definitions.{TypeTree, DeclTree, Decls, DefForm, DeclForm, DeclsForm}
use Rattle.comp_format.specs.Canons.{OptionForm, CanonForm}
use Rattle.comp_format.specs.Parts.{DescriptionForm, ArgForm, MemberForm, ExportName, InstanceForm, AliasForm, CoreArgForm, CoreMemberForm, CoreInstanceForm}
use Rattle.comp_format.specs.Items.{ItemTree, CoreMade, CoreTy, Instance, Aliased, Ty, Canonical, Import, Export, ImportForm, ExportForm}
use Rattle.comp_format.specs.Sections.{Section, Named, CoreModules, CoreInstances, CoreTypes, Nested, Instances, Aliases, Types, Canons, Imports, Exports, Sections, none, more, Whole, ContentForm, SectionsForm, ComponentForm, Reads, section_items, items_in}
use Rattle.comp_format.specs.Fits.{FitsName, FitsAnyName, FitsType, FitsArg, FitsInstance, FitsCoreArg, FitsCoreMember, FitsCoreInstance, FitsAlias, FitsImport, FitsExport, FitsVal, FitsField, FitsCase, FitsLabelled, FitsDefined, FitsFunc, FitsLimits, FitsCoreDesc, FitsCore, FitsModuleDecl, FitsModule, FitsDefinition, FitsDecl, FitsDecls, FitsOption, FitsCanon, FitsItem}

-- ---- the parts

-- what has a form fits
abbrev IsFit : {X : Type 0} → FormOf X → (X → Type 0) → Type 0
IsFit {X} One Fits = (x : X) (bytes rest : List ℕ) → One x bytes rest → Fits x

name_fits : IsFit Name FitsName
name_fits t bytes rest h = record { is_text = h.is_text; not_empty = h.not_empty; short = h.count.fits }

any_name_fits : IsFit AnyName FitsAnyName
any_name_fits t bytes rest h = record { is_text = h.is_text; short = h.count.fits }

export_name_fits : IsFit ExportName FitsName
export_name_fits t bytes rest (inl h) = name_fits t h.0 rest h.2
export_name_fits t bytes rest (inr h) = name_fits t h.0 rest h.2

many_fit : {X : Type 0} (One : FormOf X) (Fits : X → Type 0) → IsFit One Fits → IsFit (Many One) (AllByRecursion Fits)
many_fit One Fits fits [] bytes rest h = tt
many_fit One Fits fits (x ∷ xs) bytes rest h = (fits x bytes h.0 h.1, many_fit One Fits fits xs h.0 rest h.2)

vector_fits : {X : Type 0} (One : FormOf X) (Fits : X → Type 0) → IsFit One Fits → IsFit (Vector One) (λ xs. (length xs < 2 ^ 32) × All Fits xs)
vector_fits One Fits fits xs bytes rest h = (h.1.fits, All-from_recursion Fits xs (many_fit One Fits fits xs h.0 rest h.2))

labelled_fits : {X : Type 0} (label : X → List ℕ) (Behind : FormOf X) (Fits : X → Type 0) → ((x : X) (bytes rest : List ℕ) → FitsName (label x) → Behind x bytes rest → Fits x) → IsFit (Labelled label Behind) (FitsLabelled label Fits)
labelled_fits label Behind Fits fits xs bytes rest h =
    let all = vector_fits (λ x. Then (Name (label x)) (Behind x)) Fits (λ x b r t. fits x t.0 r (name_fits (label x) b t.0 t.1) t.2) xs bytes rest h.1 in
    record { differ = h.0; short = all.0; each = all.1 }

optional_fits : {X : Type 0} (One : FormOf X) (Fits : X → Type 0) → IsFit One Fits → IsFit (Optional One) (λ o. IfSome o Fits)
optional_fits One Fits fits None bytes rest h = tt
optional_fits One Fits fits (Some x) bytes rest h = fits x h.0 rest h.2

number_fits : IsFit Number (λ n. n < 2 ^ 32)
number_fits n bytes rest h = h.fits

description_fits : IsFit DescriptionForm FitsType
description_fits (description.Module i) bytes rest h = h.2.2.fits
description_fits (description.Func i) bytes rest h = h.2.fits
description_fits (description.TyEqual i) bytes rest h = h.2.2.fits
description_fits description.TyFresh bytes rest h = tt
description_fits (description.Component i) bytes rest h = h.2.fits
description_fits (description.Instance i) bytes rest h = h.2.fits

arg_fits : IsFit ArgForm FitsArg
arg_fits arg bytes rest h = record { name = name_fits arg.name bytes h.0 h.1; index = h.2.2.fits }

member_fits : IsFit MemberForm FitsArg
member_fits member bytes rest h = record { name = export_name_fits member.name bytes h.0 h.1; index = h.2.2.fits }

instance_fits : IsFit InstanceForm FitsInstance
instance_fits (instance.Instantiate c args) bytes rest h = let all = vector_fits ArgForm FitsArg arg_fits args h.2.0 rest h.2.2 in (h.2.1.fits, all.0, all.1)
instance_fits (instance.Exports members) bytes rest h = vector_fits MemberForm FitsArg member_fits members h.0 rest h.2

core_arg_fits : IsFit CoreArgForm FitsCoreArg
core_arg_fits arg bytes rest h = (any_name_fits arg.0 bytes h.0 h.1, h.2.2.fits)

core_member_fits : IsFit CoreMemberForm FitsCoreMember
core_member_fits member bytes rest h = (any_name_fits member.0 bytes h.0 h.1, h.2.2.fits)

core_instance_fits : IsFit CoreInstanceForm FitsCoreInstance
core_instance_fits (core_instance.Instantiate m args) bytes rest h = let all = vector_fits CoreArgForm FitsCoreArg core_arg_fits args h.2.0 rest h.2.2 in (h.2.1.fits, all.0, all.1)
core_instance_fits (core_instance.Exports members) bytes rest h = vector_fits CoreMemberForm FitsCoreMember core_member_fits members h.0 rest h.2

alias_fits : IsFit AliasForm FitsAlias
alias_fits (alias.Export kind from name) bytes rest h = (h.2.2.1.fits, name_fits name h.2.2.0 rest h.2.2.2)
alias_fits (alias.CoreExport kind from name) bytes rest h = (h.2.2.1.fits, any_name_fits name h.2.2.0 rest h.2.2.2)
alias_fits (alias.Outer kind count index) bytes rest h = (h.0, h.1.2.2.1.fits, h.1.2.2.2.fits)

import_fits : IsFit ImportForm FitsImport
import_fits i bytes rest h = record { name = export_name_fits i.name bytes h.0 h.1; ty = description_fits i.ty h.0 rest h.2 }

export_fits : IsFit ExportForm FitsExport
export_fits e bytes rest h =
    record { name = export_name_fits e.name bytes h.0 h.1; index = h.2.2.1.fits; ty = optional_fits DescriptionForm FitsType description_fits e.ty h.2.2.0 rest h.2.2.2 }

option_fits : IsFit OptionForm FitsOption
option_fits (option.Encoding code) bytes rest h = h.0
option_fits (option.Memory i) bytes rest h = h.2.fits
option_fits (option.Realloc i) bytes rest h = h.2.fits
option_fits (option.PostReturn i) bytes rest h = h.2.fits

canon_fits : IsFit CanonForm FitsCanon
canon_fits (canon.Lift f options ty) bytes rest h =
    let back = h.2.2.2 in
    let all = vector_fits OptionForm FitsOption option_fits options h.2.2.0 back.0 back.1 in
    (h.2.2.1.fits, all.0, all.1, back.2.fits)
canon_fits (canon.Lower f options) bytes rest h = let all = vector_fits OptionForm FitsOption option_fits options h.2.2.0 rest h.2.2.2 in (h.2.2.1.fits, all.0, all.1)
canon_fits (canon.ResourceNew ty) bytes rest h = h.2.fits
canon_fits (canon.ResourceDrop ty) bytes rest h = h.2.fits
canon_fits (canon.ResourceRep ty) bytes rest h = h.2.fits

-- ---- types

value_fits : IsFit ValForm FitsVal
value_fits (value.Primitive p) bytes rest h = tt
value_fits (value.Index i) bytes rest h = h.fits

fields_fit : IsFit (Labelled label_of FieldForm) (FitsLabelled label_of FitsField)
fields_fit = labelled_fits label_of FieldForm FitsField (λ field bytes rest name h. (name, value_fits field.1 bytes rest h))

cases_fit : IsFit (Labelled label_of CaseForm) (FitsLabelled label_of FitsCase)
cases_fit = labelled_fits label_of CaseForm FitsCase (λ a_case bytes rest name h. (name, optional_fits ValForm FitsVal value_fits a_case.1 bytes h.0 h.1))

labels_fit : IsFit (Labelled (λ label. label) (λ label bytes rest. bytes ≡ rest)) (FitsLabelled (λ label. label) FitsName)
labels_fit = labelled_fits (λ label. label) (λ label bytes rest. bytes ≡ rest) FitsName (λ label bytes rest name h. name)

defined_fits : IsFit DefinedForm FitsDefined
defined_fits (defined.Primitive p) bytes rest h = tt
defined_fits (defined.RecordOf fields) bytes rest h = (h.0, fields_fit fields h.1.0 rest h.1.2)
defined_fits (defined.VariantOf cases) bytes rest h = (h.0, cases_fit cases h.1.0 rest h.1.2)
defined_fits (defined.ListOf t) bytes rest h = value_fits t h.0 rest h.2
defined_fits (defined.TupleOf parts) bytes rest h = let all = vector_fits ValForm FitsVal value_fits parts h.1.0 rest h.1.2 in (h.0, all.0, all.1)
defined_fits (defined.FlagsOf labels) bytes rest h = (h.0, h.1, labels_fit labels h.2.0 rest h.2.2)
defined_fits (defined.EnumOf labels) bytes rest h = (h.0, labels_fit labels h.1.0 rest h.1.2)
defined_fits (defined.OptionOf t) bytes rest h = value_fits t h.0 rest h.2
defined_fits (defined.ResultOf ok err) bytes rest h = (optional_fits ValForm FitsVal value_fits ok h.0 h.2.0 h.2.1, optional_fits ValForm FitsVal value_fits err h.2.0 rest h.2.2)
defined_fits (defined.Own i) bytes rest h = h.2.fits
defined_fits (defined.Borrow i) bytes rest h = h.2.fits

result_fits : IsFit ResultForm (λ r. IfSome r FitsVal)
result_fits None bytes rest h = tt
result_fits (Some t) bytes rest h = value_fits t h.0 rest h.2

func_fits : IsFit FuncForm FitsFunc
func_fits f bytes rest h = record { params = fields_fit f.params bytes h.0 h.1; result = result_fits f.result h.0 rest h.2 }

limits_of : (min : ℕ) (max : Option ℕ) (bytes rest : List ℕ) → LimitsOf min max bytes rest → (min < 2 ^ 32) × IfSome max (λ n. n < 2 ^ 32)
limits_of min None bytes rest h = (h.2.fits, tt)
limits_of min (Some max) bytes rest h = (h.2.1.fits, h.2.2.fits)

limits_fit : IsFit LimitsForm FitsLimits
limits_fit l bytes rest h = let both = limits_of l.min l.max bytes rest h in record { min = both.0; max = both.1 }

core_desc_fits : IsFit CoreDescForm FitsCoreDesc
core_desc_fits (core_item.Func i) bytes rest h = h.2.fits
core_desc_fits (core_item.Table element limits) bytes rest h = (h.0, limits_fit limits h.1.2.0 rest h.1.2.2)
core_desc_fits (core_item.Memory limits) bytes rest h = limits_fit limits h.0 rest h.2
core_desc_fits (core_item.Global v is_mutable) bytes rest h = tt

mutual
  core_fits : IsFit CoreForm FitsCore
  core_fits (core.Func params results) bytes rest h = (h.2.1.1.fits, h.2.2.1.fits)
  core_fits (core.Module ds) bytes rest h = (h.2.1.fits, module_fits ds h.2.0 rest h.2.2)

  module_decl_fits : IsFit ModuleDeclForm FitsModuleDecl
  module_decl_fits (core.Import m name item) bytes rest h = (any_name_fits m h.0 h.2.0 h.2.1, any_name_fits name h.2.0 h.2.2.0 h.2.2.1, core_desc_fits item h.2.2.0 rest h.2.2.2)
  module_decl_fits (core.CoreTy t) bytes rest h = core_fits t h.0 rest h.2
  module_decl_fits (core.OuterAlias count index) bytes rest h = (h.2.2.2.1.fits, h.2.2.2.2.fits)
  module_decl_fits (core.Export name item) bytes rest h = (any_name_fits name h.0 h.2.0 h.2.1, core_desc_fits item h.2.0 rest h.2.2)

  module_fits : IsFit ModuleForm FitsModule
  module_fits core.none bytes rest h = tt
  module_fits (core.more d ds) bytes rest h = (module_decl_fits d bytes h.0 h.1, module_fits ds h.0 rest h.2)

mutual
  definition_fits : IsFit DefForm FitsDefinition
  definition_fits (tree.Defined d) bytes rest h = defined_fits d bytes rest h
  definition_fits (tree.Func f) bytes rest h = func_fits f h.0 rest h.2
  definition_fits (tree.Component ds) bytes rest h = (h.2.1.fits, decls_fit true ds h.2.0 rest h.2.2)
  definition_fits (tree.Instance ds) bytes rest h = (h.2.1.fits, decls_fit false ds h.2.0 rest h.2.2)
  definition_fits (tree.Resource destructor) bytes rest h = optional_fits Number (λ n. n < 2 ^ 32) number_fits destructor h.2.0 rest h.2.2

  decl_fits : (imports : Bool) (d : DeclTree) (bytes rest : List ℕ) → DeclForm imports d bytes rest → FitsDecl imports d
  decl_fits imports (tree.CoreTy t) bytes rest h = core_fits t h.0 rest h.2
  decl_fits imports (tree.Ty t) bytes rest h = (h.0, definition_fits t h.1.0 rest h.1.2)
  decl_fits imports (tree.Aliased a) bytes rest h = (h.0, alias_fits a h.1.0 rest h.1.2)
  decl_fits imports (tree.Import name ty) bytes rest h = let named = h.1.2 in (h.0, export_name_fits name h.1.0 named.0 named.1, description_fits ty named.0 rest named.2)
  decl_fits imports (tree.Export name ty) bytes rest h = let named = h.2 in (export_name_fits name h.0 named.0 named.1, description_fits ty named.0 rest named.2)

  decls_fit : (imports : Bool) (ds : Decls) (bytes rest : List ℕ) → DeclsForm imports ds bytes rest → FitsDecls imports ds
  decls_fit imports tree.none bytes rest h = tt
  decls_fit imports (tree.more d ds) bytes rest h = (decl_fits imports d bytes h.0 h.1, decls_fit imports ds h.0 rest h.2)

-- ---- items

-- the items of a section of one kind
whole_fits : {X : Type 0} (One : FormOf X) (Fits : X → Type 0) (item : X → ItemTree) → IsFit One Fits → ((x : X) → Fits x → FitsItem (item x)) → (xs : List X) (content : List ℕ) → Whole One xs content → AllByRecursion FitsItem (map item xs)
whole_fits One Fits item fits held xs content h = each xs (many_fit One Fits fits xs h.0 [] h.2)
  where
    each : (ys : List _) → AllByRecursion Fits ys → AllByRecursion FitsItem (map item ys)
    each [] f = tt
    each (y ∷ ys) f = (held y f.0, each ys f.1)

content_fits : (s : Section) (content : List ℕ) → ContentForm s content → AllByRecursion FitsItem (section_items s)
content_fits (Named name bytes) content h = (any_name_fits name content bytes h, tt)
content_fits (CoreModules bytes) content h = ((h.1.0, sym h.0 ∙ h.1.1), tt)
content_fits (CoreInstances items) content h = whole_fits CoreInstanceForm FitsCoreInstance CoreMade core_instance_fits (λ x f. f) items content h
content_fits (CoreTypes items) content h = whole_fits CoreForm FitsCore CoreTy core_fits (λ x f. f) items content h
content_fits (Nested bytes inner) content h = ((items_in inner, (inner, refl, subst (ComponentForm inner) h.0 h.1)), tt)
content_fits (Instances items) content h = whole_fits InstanceForm FitsInstance Instance instance_fits (λ x f. f) items content h
content_fits (Aliases items) content h = whole_fits AliasForm FitsAlias Aliased alias_fits (λ x f. f) items content h
content_fits (Types items) content h = whole_fits DefForm FitsDefinition Ty definition_fits (λ x f. f) items content h
content_fits (Canons items) content h = whole_fits CanonForm FitsCanon Canonical canon_fits (λ x f. f) items content h
content_fits (Imports items) content h = whole_fits ImportForm FitsImport Import import_fits (λ x f. f) items content h
content_fits (Exports items) content h = whole_fits ExportForm FitsExport Export export_fits (λ x f. f) items content h

both_fit : (front back : List ItemTree) → AllByRecursion FitsItem front → AllByRecursion FitsItem back → AllByRecursion FitsItem (front ++ back)
both_fit [] back f b = b
both_fit (item ∷ front) back f b = (f.0, both_fit front back f.1 b)

sections_fit : (ss : Sections) (bytes : List ℕ) → SectionsForm ss bytes → AllByRecursion FitsItem (items_in ss)
sections_fit none bytes h = tt
sections_fit (more s ss) bytes h = both_fit (section_items s) (items_in ss) (content_fits s h.0 h.3) (sections_fit ss h.1 h.4)

-- each item of a component has a written form
pub items_fit : (bytes : List ℕ) (items : List ItemTree) → Reads bytes items → All FitsItem items
items_fit bytes items h = subst (All FitsItem) (sym h.1) (All-from_recursion FitsItem (items_in h.0) (sections_fit h.0 h.2.0 h.2.2))
