-- How many scopes are open in a type or section: no more than it has bytes.
use Rattle.std.proofs.Common.{◌≡◌, ℕ, zero, suc, ◌+◌, ◌≤◌, Bool, true, false, List, [], ◌∷◌, length, Option, Some, None, ap, arith, inl, inr}
use Rattle.std.proofs.lemmas.List.{length-append}
use Rattle.comp_format.specs.declared.core_types.CoreVal.{CoreVal}
use Rattle.comp_format.specs.declared.core_types.CoreDesc.{CoreDesc}
use Rattle.comp_format.specs.declared.core_types.CoreDesc.TheVariants as core_item
use Rattle.comp_format.specs.declared.types.ValType.{ValType}
use Rattle.comp_format.specs.declared.types.ValType.TheVariants as value
use Rattle.comp_format.specs.declared.types.DefinedType.{DefinedType}
use Rattle.comp_format.specs.declared.types.DefinedType.TheVariants as defined
use Rattle.comp_format.specs.declared.types.FuncType.{FuncType}
use Rattle.comp_format.specs.declared.types.Sort.{Sort}
use Rattle.comp_format.specs.declared.types.Sort.TheVariants as sort
use Rattle.comp_format.specs.declared.types.TypeRef.{TypeRef}
use Rattle.comp_format.specs.declared.types.TypeRef.TheVariants as description
use Rattle.comp_format.specs.declared.types.CoreSort.{CoreSort}
use Rattle.comp_format.specs.declared.types.Arg.{Arg}
use Rattle.comp_format.specs.declared.types.CoreInstance.{CoreInstance}
use Rattle.comp_format.specs.declared.types.CoreInstance.TheVariants as core_instance
use Rattle.comp_format.specs.declared.types.InstanceItem.{InstanceItem}
use Rattle.comp_format.specs.declared.types.InstanceItem.TheVariants as instance
use Rattle.comp_format.specs.declared.types.CanonOption.{CanonOption}
use Rattle.comp_format.specs.declared.types.CanonOption.TheVariants as option
use Rattle.comp_format.specs.declared.types.Canon.{Canon}
use Rattle.comp_format.specs.declared.types.Canon.TheVariants as canon
use Rattle.comp_format.specs.declared.types.Alias.{Alias}
use Rattle.comp_format.specs.declared.types.Alias.TheVariants as alias
use Rattle.comp_format.specs.Numbers.{FormOf, Byte, Then, Number, SignedLeb}
use Rattle.comp_format.specs.Vectors.{Many, Vector, Name, AnyName, Optional}
use Rattle.comp_format.specs.Types.{ValForm, FieldForm, CaseForm, DefinedForm, ResultForm, FuncForm, label_of}
use Rattle.comp_format.specs.Parts.{SortForm, DescriptionForm, ArgForm, ExportName, MemberForm, InstanceForm, AliasForm, CoreArgForm, CoreMemberForm, CoreInstanceForm}
use Rattle.comp_format.specs.Canons.{OptionForm, CanonForm}
use Rattle.comp_format.specs.Items.{ImportTree, ExportTree, ImportForm, ExportForm}
use Rattle.comp_format.specs.CoreTypes as core
use Rattle.comp_format.specs.CoreTypes.{CoreTree, ModuleDeclTree, ModuleDecls, CoreValForm, LimitsOf, CoreDescForm, CoreForm, ModuleDeclForm, ModuleForm}
use Rattle.comp_format.specs.Definitions as tree
use Rattle.comp_format.specs.Definitions.{TypeTree, DeclTree, Decls, DefForm, DeclForm, DeclsForm}
use Rattle.comp_format.specs.Sections.{Section, Named, CoreModules, CoreInstances, CoreTypes, Nested, Instances, Aliases, Types, Canons, Imports, Exports, Sections, none, more, ContentForm, SectionsForm, section_id, header}
use Rattle.comp_format.specs.NumberLaws.{leb_shorter}
use Rattle.comp_format.specs.CoreTypeLaws.{core_scopes, module_decl_scopes, module_scopes}
use Rattle.comp_format.specs.DefinitionLaws.{type_scopes, decl_scopes, decls_scopes}
use Rattle.comp_format.specs.SectionLaws.{total, section_scopes, sections_scopes, framed_shorter}

-- ---- forms use bytes up

-- what stands behind a form is no longer than the bytes
abbrev pub UsesUp : (List ℕ → List ℕ → Type 0) → Type 0
UsesUp Form = (bytes rest : List ℕ) → Form bytes rest → length rest ≤ length bytes

byte_used : (b : ℕ) → UsesUp (Byte b)
byte_used b bytes rest h = omega (arith, ap length h)

then_used : (First Second : List ℕ → List ℕ → Type 0) → UsesUp First → UsesUp Second → UsesUp (Then First Second)
then_used First Second first second bytes rest h = omega (arith, first bytes h.0 h.1, second h.0 rest h.2)

-- a byte, and a form behind it
marked_used : (b : ℕ) (Form : List ℕ → List ℕ → Type 0) → UsesUp Form → UsesUp (Then (Byte b) Form)
marked_used b Form used = then_used (Byte b) Form (byte_used b) used

number_used : (n : ℕ) → UsesUp (Number n)
number_used n bytes rest h = omega (arith, leb_shorter 5 n bytes rest h.form)

signed_used : (most n : ℕ) → UsesUp (SignedLeb most n)
signed_used zero n bytes rest h = absurd h
signed_used (suc most) n [] rest h = absurd h
signed_used (suc most) n (b ∷ bytes) rest (inl h) = omega (arith, ap length h.2)
signed_used (suc most) n (b ∷ bytes) rest (inr h) = omega (arith, signed_used most h.1 bytes rest h.3)

name_used : (name : List ℕ) → UsesUp (Name name)
name_used name bytes rest h = omega (arith, number_used (length name) bytes h.after h.count, ap length h.is_there, length-append name rest)

any_name_used : (name : List ℕ) → UsesUp (AnyName name)
any_name_used name bytes rest h = omega (arith, number_used (length name) bytes h.after h.count, ap length h.is_there, length-append name rest)

module _ {X : Type 0} (One : FormOf X) (used : (x : X) → UsesUp (One x)) where
  pub many_used : (xs : List X) → UsesUp (Many One xs)
  many_used [] bytes rest h = omega (arith, ap length h)
  many_used (x ∷ xs) bytes rest h = omega (arith, used x bytes h.0 h.1, many_used xs h.0 rest h.2)

  vector_used : (xs : List X) → UsesUp (Vector One xs)
  vector_used xs bytes rest h = omega (arith, number_used (length xs) bytes h.0 h.1, many_used xs h.0 rest h.2)

  optional_used : (o : Option X) → UsesUp (Optional One o)
  optional_used None = byte_used 0
  optional_used (Some x) = marked_used 1 (One x) (used x)

value_used : (t : ValType) → UsesUp (ValForm t)
value_used (value.Primitive p) bytes rest h = byte_used _ bytes rest h
value_used (value.Index i) bytes rest h = signed_used 5 i bytes rest h.form

-- values under labels
labelled_used : {X : Type 0} (label : X → List ℕ) (Behind : FormOf X) → ((x : X) → UsesUp (Behind x)) → (xs : List X) → UsesUp (Vector (λ x. Then (Name (label x)) (Behind x)) xs)
labelled_used label Behind used = vector_used (λ x. Then (Name (label x)) (Behind x)) (λ x. then_used (Name (label x)) (Behind x) (name_used (label x)) (used x))

fields_used : (fields : List (List ℕ × ValType)) → UsesUp (Vector (λ x. Then (Name (label_of x)) (FieldForm x)) fields)
fields_used = labelled_used label_of FieldForm (λ field. value_used field.1)

cases_used : (cases : List (List ℕ × Option ValType)) → UsesUp (Vector (λ x. Then (Name (label_of x)) (CaseForm x)) cases)
cases_used = labelled_used label_of CaseForm (λ a_case. then_used (Optional ValForm a_case.1) (Byte 0) (optional_used ValForm value_used a_case.1) (byte_used 0))

names_used : (labels : List (List ℕ)) → UsesUp (Vector (λ label. Then (Name label) (λ bytes rest. bytes ≡ rest)) labels)
names_used = labelled_used (λ label. label) (λ label bytes rest. bytes ≡ rest) (λ label bytes rest h. omega (arith, ap length h))

defined_used : (d : DefinedType) → UsesUp (DefinedForm d)
defined_used (defined.Primitive p) bytes rest h = byte_used _ bytes rest h
defined_used (defined.RecordOf fields) bytes rest h = omega (arith, ap length h.1.1, fields_used fields h.1.0 rest h.1.2.1)
defined_used (defined.VariantOf cases) bytes rest h = omega (arith, ap length h.1.1, cases_used cases h.1.0 rest h.1.2.1)
defined_used (defined.ListOf t) bytes rest h = omega (arith, ap length h.1, value_used t h.0 rest h.2)
defined_used (defined.TupleOf parts) bytes rest h = omega (arith, ap length h.1.1, vector_used ValForm value_used parts h.1.0 rest h.1.2)
defined_used (defined.FlagsOf labels) bytes rest h = omega (arith, ap length h.2.1, names_used labels h.2.0 rest h.2.2.1)
defined_used (defined.EnumOf labels) bytes rest h = omega (arith, ap length h.1.1, names_used labels h.1.0 rest h.1.2.1)
defined_used (defined.OptionOf t) bytes rest h = omega (arith, ap length h.1, value_used t h.0 rest h.2)
defined_used (defined.ResultOf ok err) bytes rest h = omega (arith, ap length h.1, optional_used ValForm value_used ok h.0 h.2.0 h.2.1, optional_used ValForm value_used err h.2.0 rest h.2.2)
defined_used (defined.Own i) bytes rest h = omega (arith, ap length h.1, number_used i h.0 rest h.2)
defined_used (defined.Borrow i) bytes rest h = omega (arith, ap length h.1, number_used i h.0 rest h.2)

result_used : (o : Option ValType) → UsesUp (ResultForm o)
result_used (Some t) = marked_used 0 (ValForm t) (value_used t)
result_used None = marked_used 1 (Byte 0) (byte_used 0)

func_used : (f : FuncType) → UsesUp (FuncForm f)
func_used f bytes rest h = omega (arith, fields_used f.params bytes h.0 h.1.1, result_used f.result h.0 rest h.2)

sort_used : (s : Sort) → UsesUp (SortForm s)
sort_used (sort.Core c) = marked_used 0 (Byte _) (byte_used _)
sort_used sort.Func = byte_used 1
sort_used sort.Ty = byte_used 3
sort_used sort.Component = byte_used 4
sort_used sort.Instance = byte_used 5

description_used : (d : TypeRef) → UsesUp (DescriptionForm d)
description_used (description.Module i) = marked_used 0 (Then (Byte 0x11) (Number i)) (marked_used 0x11 (Number i) (number_used i))
description_used (description.Func i) = marked_used 1 (Number i) (number_used i)
description_used (description.TyEqual i) = marked_used 3 (Then (Byte 0) (Number i)) (marked_used 0 (Number i) (number_used i))
description_used description.TyFresh = marked_used 3 (Byte 1) (byte_used 1)
description_used (description.Component i) = marked_used 4 (Number i) (number_used i)
description_used (description.Instance i) = marked_used 5 (Number i) (number_used i)

export_name_used : (name : List ℕ) → UsesUp (ExportName name)
export_name_used name bytes rest (inl h) = omega (arith, ap length h.1, name_used name h.0 rest h.2)
export_name_used name bytes rest (inr h) = omega (arith, ap length h.1, name_used name h.0 rest h.2)

pub alias_used : (a : Alias) → UsesUp (AliasForm a)
alias_used (alias.Export kind from name) bytes rest h =
    omega (arith, sort_used kind bytes h.0 h.1, ap length h.2.1, number_used from h.2.0 h.2.2.0 h.2.2.1, name_used name h.2.2.0 rest h.2.2.2)
alias_used (alias.CoreExport kind from name) bytes rest h =
    omega (arith, sort_used (sort.Core kind) bytes h.0 h.1, ap length h.2.1, number_used from h.2.0 h.2.2.0 h.2.2.1, any_name_used name h.2.2.0 rest h.2.2.2)
alias_used (alias.Outer kind count index) bytes rest h =
    omega (arith, sort_used kind bytes h.1.0 h.1.1, ap length h.1.2.1, number_used count h.1.2.0 h.1.2.2.0 h.1.2.2.1, number_used index h.1.2.2.0 rest h.1.2.2.2)

limits_used : (min : ℕ) (most : Option ℕ) → UsesUp (LimitsOf min most)
limits_used min None = marked_used 0 (Number min) (number_used min)
limits_used min (Some n) = marked_used 1 (Then (Number min) (Number n)) (then_used (Number min) (Number n) (number_used min) (number_used n))

core_value_used : (v : CoreVal) → UsesUp (CoreValForm v)
core_value_used v = byte_used _

core_desc_used : (d : CoreDesc) → UsesUp (CoreDescForm d)
core_desc_used (core_item.Func i) bytes rest h = omega (arith, ap length h.1, number_used i h.0 rest h.2)
core_desc_used (core_item.Table element limits) bytes rest h =
    omega (arith, ap length h.1.1, core_value_used element h.1.0 h.1.2.0 h.1.2.1, limits_used limits.min limits.max h.1.2.0 rest h.1.2.2)
core_desc_used (core_item.Memory limits) bytes rest h = omega (arith, ap length h.1, limits_used limits.min limits.max h.0 rest h.2)
core_desc_used (core_item.Global v is_mutable) bytes rest h = omega (arith, ap length h.1, core_value_used v h.0 h.2.0 h.2.1, byte_used _ h.2.0 rest h.2.2)

arg_used : (arg : Arg) → UsesUp (ArgForm arg)
arg_used arg bytes rest h = omega (arith, name_used arg.name bytes h.0 h.1, sort_used arg.sort h.0 h.2.0 h.2.1, number_used arg.index h.2.0 rest h.2.2)

member_used : (member : Arg) → UsesUp (MemberForm member)
member_used member bytes rest h = omega (arith, export_name_used member.name bytes h.0 h.1, sort_used member.sort h.0 h.2.0 h.2.1, number_used member.index h.2.0 rest h.2.2)

pub instance_used : (i : InstanceItem) → UsesUp (InstanceForm i)
instance_used (instance.Instantiate component args) bytes rest h = omega (arith, ap length h.1, number_used component h.0 h.2.0 h.2.1, vector_used ArgForm arg_used args h.2.0 rest h.2.2)
instance_used (instance.Exports members) bytes rest h = omega (arith, ap length h.1, vector_used MemberForm member_used members h.0 rest h.2)

core_arg_used : (arg : List ℕ × ℕ) → UsesUp (CoreArgForm arg)
core_arg_used arg bytes rest h = omega (arith, any_name_used arg.0 bytes h.0 h.1, ap length h.2.1, number_used arg.1 h.2.0 rest h.2.2)

core_member_used : (member : List ℕ × CoreSort × ℕ) → UsesUp (CoreMemberForm member)
core_member_used member bytes rest h = omega (arith, any_name_used member.0 bytes h.0 h.1, ap length h.2.1, number_used member.2 h.2.0 rest h.2.2)

pub core_instance_used : (i : CoreInstance) → UsesUp (CoreInstanceForm i)
core_instance_used (core_instance.Instantiate m args) bytes rest h = omega (arith, ap length h.1, number_used m h.0 h.2.0 h.2.1, vector_used CoreArgForm core_arg_used args h.2.0 rest h.2.2)
core_instance_used (core_instance.Exports members) bytes rest h = omega (arith, ap length h.1, vector_used CoreMemberForm core_member_used members h.0 rest h.2)

option_used : (o : CanonOption) → UsesUp (OptionForm o)
option_used (option.Encoding code) bytes rest h = byte_used code bytes rest h.1
option_used (option.Memory i) bytes rest h = marked_used 3 (Number i) (number_used i) bytes rest h
option_used (option.Realloc i) bytes rest h = marked_used 4 (Number i) (number_used i) bytes rest h
option_used (option.PostReturn i) bytes rest h = marked_used 5 (Number i) (number_used i) bytes rest h

pub canon_used : (c : Canon) → UsesUp (CanonForm c)
canon_used (canon.Lift f options ty) bytes rest h =
    omega (arith, ap length h.1, ap length h.2.1, number_used f h.2.0 h.2.2.0 h.2.2.1, vector_used OptionForm option_used options h.2.2.0 h.2.2.2.0 h.2.2.2.1, number_used ty h.2.2.2.0 rest h.2.2.2.2)
canon_used (canon.Lower f options) bytes rest h = omega (arith, ap length h.1, ap length h.2.1, number_used f h.2.0 h.2.2.0 h.2.2.1, vector_used OptionForm option_used options h.2.2.0 rest h.2.2.2)
canon_used (canon.ResourceNew ty) bytes rest h = marked_used 2 (Number ty) (number_used ty) bytes rest h
canon_used (canon.ResourceDrop ty) bytes rest h = marked_used 3 (Number ty) (number_used ty) bytes rest h
canon_used (canon.ResourceRep ty) bytes rest h = marked_used 4 (Number ty) (number_used ty) bytes rest h

pub import_used : (i : ImportTree) → UsesUp (ImportForm i)
import_used i bytes rest h = omega (arith, export_name_used i.name bytes h.0 h.1, description_used i.ty h.0 rest h.2)

pub export_used : (e : ExportTree) → UsesUp (ExportForm e)
export_used e bytes rest h =
    omega (arith, export_name_used e.name bytes h.0 h.1, sort_used e.sort h.0 h.2.0 h.2.1, number_used e.index h.2.0 h.2.2.0 h.2.2.1, optional_used DescriptionForm description_used e.ty h.2.2.0 rest h.2.2.2)

-- ---- scopes

mutual
  pub core_within : (t : CoreTree) (bytes rest : List ℕ) → CoreForm t bytes rest → core_scopes t + length rest ≤ length bytes
  core_within (core.Func params results) bytes rest h =
      omega (arith, ap length h.1, vector_used CoreValForm core_value_used params h.0 h.2.0 h.2.1, vector_used CoreValForm core_value_used results h.2.0 rest h.2.2)
  core_within (core.Module ds) bytes rest h = omega (arith, ap length h.1, number_used _ h.0 h.2.0 h.2.1, module_within ds h.2.0 rest h.2.2)

  module_decl_within : (d : ModuleDeclTree) (bytes rest : List ℕ) → ModuleDeclForm d bytes rest → module_decl_scopes d + length rest ≤ length bytes
  module_decl_within (core.Import m name item) bytes rest h =
      omega (arith, ap length h.1, any_name_used m h.0 h.2.0 h.2.1, any_name_used name h.2.0 h.2.2.0 h.2.2.1, core_desc_used item h.2.2.0 rest h.2.2.2)
  module_decl_within (core.CoreTy t) bytes rest h = omega (arith, ap length h.1, core_within t h.0 rest h.2)
  module_decl_within (core.OuterAlias count index) bytes rest h =
      omega (arith, ap length h.1, ap length h.2.1, ap length h.2.2.1, number_used count h.2.2.0 h.2.2.2.0 h.2.2.2.1, number_used index h.2.2.2.0 rest h.2.2.2.2)
  module_decl_within (core.Export name item) bytes rest h = omega (arith, ap length h.1, any_name_used name h.0 h.2.0 h.2.1, core_desc_used item h.2.0 rest h.2.2)

  module_within : (ds : ModuleDecls) (bytes rest : List ℕ) → ModuleForm ds bytes rest → module_scopes ds + length rest ≤ length bytes
  module_within core.none bytes rest h = omega (arith, ap length h)
  module_within (core.more d ds) bytes rest h = omega (arith, module_decl_within d bytes h.0 h.1, module_within ds h.0 rest h.2)

mutual
  pub definition_within : (t : TypeTree) (bytes rest : List ℕ) → DefForm t bytes rest → type_scopes t + length rest ≤ length bytes
  definition_within (tree.Defined d) bytes rest h = omega (arith, defined_used d bytes rest h)
  definition_within (tree.Func f) bytes rest h = omega (arith, ap length h.1, func_used f h.0 rest h.2)
  definition_within (tree.Component ds) bytes rest h = omega (arith, ap length h.1, number_used _ h.0 h.2.0 h.2.1, decls_within ds true h.2.0 rest h.2.2)
  definition_within (tree.Instance ds) bytes rest h = omega (arith, ap length h.1, number_used _ h.0 h.2.0 h.2.1, decls_within ds false h.2.0 rest h.2.2)
  definition_within (tree.Resource destructor) bytes rest h = omega (arith, ap length h.1, ap length h.2.1, optional_used Number number_used destructor h.2.0 rest h.2.2)

  decl_within : (d : DeclTree) (imports : Bool) (bytes rest : List ℕ) → DeclForm imports d bytes rest → decl_scopes d + length rest ≤ length bytes
  decl_within (tree.CoreTy t) imports bytes rest h = omega (arith, ap length h.1, core_within t h.0 rest h.2)
  decl_within (tree.Ty t) imports bytes rest h = omega (arith, ap length h.1.1, definition_within t h.1.0 rest h.1.2)
  decl_within (tree.Aliased a) imports bytes rest h = omega (arith, ap length h.1.1, alias_used a h.1.0 rest h.1.2)
  decl_within (tree.Import name ty) imports bytes rest h = omega (arith, ap length h.1.1, export_name_used name h.1.0 h.1.2.0 h.1.2.1, description_used ty h.1.2.0 rest h.1.2.2)
  decl_within (tree.Export name ty) imports bytes rest h = omega (arith, ap length h.1, export_name_used name h.0 h.2.0 h.2.1, description_used ty h.2.0 rest h.2.2)

  decls_within : (ds : Decls) (imports : Bool) (bytes rest : List ℕ) → DeclsForm imports ds bytes rest → decls_scopes ds + length rest ≤ length bytes
  decls_within tree.none imports bytes rest h = omega (arith, ap length h)
  decls_within (tree.more d ds) imports bytes rest h = omega (arith, decl_within d imports bytes h.0 h.1, decls_within ds imports h.0 rest h.2)

pub core_used : (t : CoreTree) → UsesUp (CoreForm t)
core_used t bytes rest h = omega (arith, core_within t bytes rest h)

pub definition_used : (t : TypeTree) → UsesUp (DefForm t)
definition_used t bytes rest h = omega (arith, definition_within t bytes rest h)

-- the scopes of all of some types
all_within : {X : Type 0} (One : FormOf X) (scopes : X → ℕ) → ((x : X) (bytes rest : List ℕ) → One x bytes rest → scopes x + length rest ≤ length bytes)
    → (xs : List X) (bytes rest : List ℕ) → Many One xs bytes rest → total scopes xs + length rest ≤ length bytes
all_within One scopes within [] bytes rest h = omega (arith, ap length h)
all_within One scopes within (x ∷ xs) bytes rest h = omega (arith, within x bytes h.0 h.1, all_within One scopes within xs h.0 rest h.2)

mutual
  -- a section has no more scopes than its content has bytes
  pub section_within : (s : Section) (content : List ℕ) → ContentForm s content → section_scopes s ≤ length content
  section_within (Named name bytes) content h = omega arith
  section_within (CoreModules bytes) content h = omega arith
  section_within (CoreInstances items) content h = omega arith
  section_within (CoreTypes items) content h = omega (arith, number_used _ content h.0 h.1, all_within CoreForm core_scopes core_within items h.0 [] h.2)
  section_within (Nested bytes inner) content h = omega (arith, ap length h.1.1, length-append header h.1.0, sections_within inner h.1.0 h.1.2)
  section_within (Instances items) content h = omega arith
  section_within (Aliases items) content h = omega arith
  section_within (Types items) content h = omega (arith, number_used _ content h.0 h.1, all_within DefForm type_scopes definition_within items h.0 [] h.2)
  section_within (Canons items) content h = omega arith
  section_within (Imports items) content h = omega arith
  section_within (Exports items) content h = omega arith

  sections_within : (ss : Sections) (bytes : List ℕ) → SectionsForm ss bytes → sections_scopes ss ≤ length bytes
  sections_within none bytes h = omega arith
  sections_within (more s ss) bytes h = omega (arith, framed_shorter (section_id s) h.0 bytes h.1 h.2, section_within s h.0 h.3, sections_within ss h.1 h.4)
