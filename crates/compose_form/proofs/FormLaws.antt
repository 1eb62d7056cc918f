-- Types that were read have the form that writing asks for.
use Rattle.std.proofs.Common.{◌≡◌, ◌<◌, ℕ, Bool, true, false, List, [], ◌∷◌, length, map, inl, inr, subst, sym}
use Rattle.std.specs.List.{AllByRecursion}
use Rattle.std.proofs.lemmas.List.{map-id}
use Rattle.std.proofs.lemmas.List.Elements.{All-from_recursion}
use Rattle.comp_format.specs.CoreTypes as core
use Rattle.comp_format.specs.CoreTypes.{CoreTree, CoreDescForm, CoreForm, ModuleDeclTree, ModuleDecls, ModuleDeclForm, ModuleForm}
use Rattle.comp_format.specs.declared.core_types.CoreDesc.{CoreDesc}
use Rattle.comp_format.specs.declared.core_types.CoreDesc.TheVariants as core_item
use Rattle.comp_format.specs.declared.types.Arg.{Arg}
use Rattle.comp_format.specs.declared.types.DefinedType.{DefinedType}
use Rattle.comp_format.specs.declared.types.DefinedType.TheVariants as defined
use Rattle.comp_format.specs.declared.types.InstanceItem.{InstanceItem}
use Rattle.comp_format.specs.declared.types.InstanceItem.TheVariants as instance
use Rattle.comp_format.specs.Definitions as tree
use Rattle.comp_format.specs.Definitions.{TypeTree, DeclTree, Decls, DefForm, DeclForm, DeclsForm}
use Rattle.comp_format.specs.Forms.{AreLabels, AreModuleDecls, IsCore, IsCoreDesc, IsDefined, IsFunc, IsModuleDecl}
use Rattle.comp_format.specs.Items.{ItemTree, CoreMade, CoreTy, Instance, Aliased, Ty, Canonical, Import, Export, ImportForm, ExportForm}
use Rattle.comp_format.specs.Numbers.{Then}
use Rattle.comp_format.specs.Parts.{ExportName, InstanceForm, MemberForm}
use Rattle.comp_format.specs.Sections.{Section, Named, CoreModules, CoreInstances, CoreTypes, Nested, Instances, Aliases, Types, Canons, Imports, Exports, Sections, none, more, ContentForm, SectionsForm, section_items}
use Rattle.comp_format.specs.Types.{CaseForm, DefinedForm, FieldForm, label_of}
use Rattle.comp_format.specs.Vectors.{Labelled, Many, Name}
use Rattle.comp_scope.specs.Shape.{Part, Plain, Inner, Parts, nothing, then_part, HasParts, in_front_of, parts_of_section, parts_in}

-- ---- labels

many_named : {X : Type 0} (label : X → List ℕ) (Behind : X → List ℕ → List ℕ → Type 0) (xs : List X) (bytes rest : List ℕ) → Many (λ x. Then (Name (label x)) (Behind x)) xs bytes rest → AllByRecursion (λ l. 0 < length l) (map label xs)
many_named label Behind [] bytes rest h = tt
many_named label Behind (x ∷ xs) bytes rest h = (h.1.1.not_empty, many_named label Behind xs h.0 rest h.2)

labels_form : {X : Type 0} (label : X → List ℕ) (Behind : X → List ℕ → List ℕ → Type 0) (xs : List X) (bytes rest : List ℕ) → Labelled label Behind xs bytes rest → AreLabels (map label xs)
labels_form label Behind xs bytes rest h = record { named = All-from_recursion (λ (l : List ℕ). 0 < length l) (map label xs) (many_named label Behind xs h.1.0 rest h.1.2); differ = h.0 }

-- ---- types of core modules

desc_form : (d : CoreDesc) (bytes rest : List ℕ) → CoreDescForm d bytes rest → IsCoreDesc d
desc_form (core_item.Func i) bytes rest h = tt
desc_form (core_item.Table element limits) bytes rest h = h.0
desc_form (core_item.Memory limits) bytes rest h = tt
desc_form (core_item.Global v is_mutable) bytes rest h = tt

mutual
  core_form : (t : CoreTree) (bytes rest : List ℕ) → CoreForm t bytes rest → IsCore t
  core_form (core.Func params results) bytes rest h = tt
  core_form (core.Module ds) bytes rest h = module_form ds h.2.0 rest h.2.2

  module_decl_form : (d : ModuleDeclTree) (bytes rest : List ℕ) → ModuleDeclForm d bytes rest → IsModuleDecl d
  module_decl_form (core.Import m name item) bytes rest h = desc_form item h.2.2.0 rest h.2.2.2
  module_decl_form (core.CoreTy t) bytes rest h = core_form t h.0 rest h.2
  module_decl_form (core.OuterAlias count index) bytes rest h = tt
  module_decl_form (core.Export name item) bytes rest h = desc_form item h.2.0 rest h.2.2

  module_form : (ds : ModuleDecls) (bytes rest : List ℕ) → ModuleForm ds bytes rest → AreModuleDecls ds
  module_form core.none bytes rest h = tt
  module_form (core.more d ds) bytes rest h = (module_decl_form d bytes h.0 h.1, module_form ds h.0 rest h.2)

-- ---- types

defined_form : (d : DefinedType) (bytes rest : List ℕ) → DefinedForm d bytes rest → IsDefined d
defined_form (defined.Primitive p) bytes rest h = tt
defined_form (defined.RecordOf fields) bytes rest h = (h.0, labels_form label_of FieldForm fields h.1.0 rest h.1.2)
defined_form (defined.VariantOf cases) bytes rest h = (h.0, labels_form label_of CaseForm cases h.1.0 rest h.1.2)
defined_form (defined.ListOf t) bytes rest h = tt
defined_form (defined.TupleOf parts) bytes rest h = h.0
defined_form (defined.FlagsOf labels) bytes rest h = (h.0, h.1, subst AreLabels (map-id labels) (labels_form (λ label. label) (λ label bytes rest. bytes ≡ rest) labels h.2.0 rest h.2.2))
defined_form (defined.EnumOf labels) bytes rest h = (h.0, subst AreLabels (map-id labels) (labels_form (λ label. label) (λ label bytes rest. bytes ≡ rest) labels h.1.0 rest h.1.2))
defined_form (defined.OptionOf t) bytes rest h = tt
defined_form (defined.ResultOf ok err) bytes rest h = tt
defined_form (defined.Own i) bytes rest h = tt
defined_form (defined.Borrow i) bytes rest h = tt

-- what a type, and a declaration, have to be, so that what they stand for has a form
abbrev mutual
  pub TypeKeeps : TypeTree → Type 0
  TypeKeeps (tree.Defined d) = IsDefined d
  TypeKeeps (tree.Func f) = IsFunc f
  TypeKeeps (tree.Component ds) = DeclsKeep ds
  TypeKeeps (tree.Instance ds) = DeclsKeep ds
  TypeKeeps (tree.Resource destructor) = Unit {0}

  pub DeclKeeps : DeclTree → Type 0
  DeclKeeps (tree.CoreTy t) = IsCore t
  DeclKeeps (tree.Ty t) = TypeKeeps t
  DeclKeeps (tree.Aliased a) = Unit {0}
  DeclKeeps (tree.Import name ty) = 0 < length name
  DeclKeeps (tree.Export name ty) = 0 < length name

  pub DeclsKeep : Decls → Type 0
  DeclsKeep tree.none = Unit {0}
  DeclsKeep (tree.more d ds) = DeclKeeps d × DeclsKeep ds

export_name : (name bytes rest : List ℕ) → ExportName name bytes rest → 0 < length name
export_name name bytes rest (inl h) = h.2.not_empty
export_name name bytes rest (inr h) = h.2.not_empty

mutual
  type_form : (t : TypeTree) (bytes rest : List ℕ) → DefForm t bytes rest → TypeKeeps t
  type_form (tree.Defined d) bytes rest h = defined_form d bytes rest h
  type_form (tree.Func f) bytes rest h = labels_form label_of FieldForm f.params h.0 h.2.0 h.2.1
  type_form (tree.Component ds) bytes rest h = decls_form true ds h.2.0 rest h.2.2
  type_form (tree.Instance ds) bytes rest h = decls_form false ds h.2.0 rest h.2.2
  type_form (tree.Resource destructor) bytes rest h = tt

  decl_form : (imports : Bool) (d : DeclTree) (bytes rest : List ℕ) → DeclForm imports d bytes rest → DeclKeeps d
  decl_form imports (tree.CoreTy t) bytes rest h = core_form t h.0 rest h.2
  decl_form imports (tree.Ty t) bytes rest h = type_form t h.1.0 rest h.1.2
  decl_form imports (tree.Aliased a) bytes rest h = tt
  decl_form imports (tree.Import name ty) bytes rest h = export_name name h.1.0 h.1.2.0 h.1.2.1
  decl_form imports (tree.Export name ty) bytes rest h = export_name name h.0 h.2.0 h.2.1

  decls_form : (imports : Bool) (ds : Decls) (bytes rest : List ℕ) → DeclsForm imports ds bytes rest → DeclsKeep ds
  decls_form imports tree.none bytes rest h = tt
  decls_form imports (tree.more d ds) bytes rest h = (decl_form imports d bytes h.0 h.1, decls_form imports ds h.0 rest h.2)

-- ---- items

abbrev pub ArgNamed : Arg → Type 0
ArgNamed arg = 0 < length arg.name

abbrev pub InstanceKeeps : InstanceItem → Type 0
InstanceKeeps (instance.Instantiate component args) = Unit {0}
InstanceKeeps (instance.Exports members) = AllByRecursion ArgNamed members

abbrev pub ItemKeeps : ItemTree → Type 0
ItemKeeps (CoreTy t) = IsCore t
ItemKeeps (Ty t) = TypeKeeps t
ItemKeeps (Instance item) = InstanceKeeps item
ItemKeeps (Import i) = 0 < length i.name
ItemKeeps (Export e) = 0 < length e.name
ItemKeeps _ = Unit {0}

abbrev mutual
  pub PartKeeps : Part → Type 0
  PartKeeps (Plain item) = ItemKeeps item
  PartKeeps (Inner bytes parts) = PartsKeep parts

  pub PartsKeep : Parts → Type 0
  PartsKeep nothing = Unit {0}
  PartsKeep (then_part p ps) = PartKeeps p × PartsKeep ps

members_named : (ms : List Arg) (bytes rest : List ℕ) → Many MemberForm ms bytes rest → AllByRecursion ArgNamed ms
members_named [] bytes rest h = tt
members_named (m ∷ ms) bytes rest h = (export_name m.name bytes h.1.0 h.1.1, members_named ms h.0 rest h.2)

instance_form : (i : InstanceItem) (bytes rest : List ℕ) → InstanceForm i bytes rest → InstanceKeeps i
instance_form (instance.Instantiate component args) bytes rest h = tt
instance_form (instance.Exports members) bytes rest h = members_named members h.2.0 rest h.2.2

many_keep : {X : Type 0} (item : X → ItemTree) (One : X → List ℕ → List ℕ → Type 0) → ((x : X) (bytes rest : List ℕ) → One x bytes rest → ItemKeeps (item x)) → (xs : List X) (bytes rest : List ℕ) → Many One xs bytes rest → AllByRecursion ItemKeeps (map item xs)
many_keep item One one [] bytes rest h = tt
many_keep item One one (x ∷ xs) bytes rest h = (one x bytes h.0 h.1, many_keep item One one xs h.0 rest h.2)

others_keep : {X : Type 0} (item : X → ItemTree) → ((x : X) → ItemKeeps (item x)) → (xs : List X) → AllByRecursion ItemKeeps (map item xs)
others_keep item h [] = tt
others_keep item h (x ∷ xs) = (h x, others_keep item h xs)

section_keeps : (s : Section) (content : List ℕ) → ContentForm s content → AllByRecursion ItemKeeps (section_items s)
section_keeps (Named name bytes) content h = (tt, tt)
section_keeps (CoreModules bytes) content h = (tt, tt)
section_keeps (CoreInstances items) content h = others_keep CoreMade (λ x. tt) items
section_keeps (CoreTypes items) content h = many_keep CoreTy CoreForm core_form items h.0 [] h.2
section_keeps (Nested bytes inner) content h = (tt, tt)
section_keeps (Instances items) content h = many_keep Instance InstanceForm instance_form items h.0 [] h.2
section_keeps (Aliases items) content h = others_keep Aliased (λ x. tt) items
section_keeps (Types items) content h = many_keep Ty DefForm type_form items h.0 [] h.2
section_keeps (Canons items) content h = others_keep Canonical (λ x. tt) items
section_keeps (Imports items) content h = many_keep Import ImportForm (λ i bytes rest f. export_name i.name bytes f.0 f.1) items h.0 [] h.2
section_keeps (Exports items) content h = many_keep Export ExportForm (λ e bytes rest f. export_name e.name bytes f.0 f.1) items h.0 [] h.2

in_front : (items : List ItemTree) (parts : Parts) → AllByRecursion ItemKeeps items → PartsKeep parts → PartsKeep (in_front_of items parts)
in_front [] parts h k = k
in_front (item ∷ items) parts h k = (h.0, in_front items parts h.1 k)

mutual
  section_parts : (s : Section) (content : List ℕ) (parts : Parts) → ContentForm s content → PartsKeep parts → PartsKeep (parts_of_section s parts)
  section_parts (Named name bytes) content parts h k = (tt, k)
  section_parts (CoreModules bytes) content parts h k = (tt, k)
  section_parts (CoreInstances items) content parts h k = in_front _ parts (section_keeps (CoreInstances items) content h) k
  section_parts (CoreTypes items) content parts h k = in_front _ parts (section_keeps (CoreTypes items) content h) k
  section_parts (Nested bytes inner) content parts h k = (sections_keep inner h.1.0 h.1.2, k)
  section_parts (Instances items) content parts h k = in_front _ parts (section_keeps (Instances items) content h) k
  section_parts (Aliases items) content parts h k = in_front _ parts (section_keeps (Aliases items) content h) k
  section_parts (Types items) content parts h k = in_front _ parts (section_keeps (Types items) content h) k
  section_parts (Canons items) content parts h k = in_front _ parts (section_keeps (Canons items) content h) k
  section_parts (Imports items) content parts h k = in_front _ parts (section_keeps (Imports items) content h) k
  section_parts (Exports items) content parts h k = in_front _ parts (section_keeps (Exports items) content h) k

  sections_keep : (ss : Sections) (bytes : List ℕ) → SectionsForm ss bytes → PartsKeep (parts_in ss)
  sections_keep none bytes h = tt
  sections_keep (more s ss) bytes h = section_parts s h.0 (parts_in ss) h.3 (sections_keep ss h.1 h.4)

pub parts_keep : (bytes : List ℕ) (parts : Parts) → HasParts bytes parts → PartsKeep parts
parts_keep bytes parts h = subst PartsKeep (sym h.1) (sections_keep h.0 h.2.0 h.2.2)
