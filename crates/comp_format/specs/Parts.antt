-- Sorts, descriptions, aliases and instances as bytes (Component Model, Binary.md, "Instance Definitions", "Alias
-- Definitions", "Import and Export Definitions").
use Rattle.std.specs.Prelude.{◌≡◌, ◌⊎◌, ℕ, Bool, true, false, List, [], ◌∷◌, ◌++◌, Option, Some, None, Ok, Err, ◌==◌, if◌then◌else◌}
use Rattle.warg_values.specs.Reading.{◌>>=◌}
use Rattle.comp_format.specs.declared.types.CoreSort.{CoreSort}
use Rattle.comp_format.specs.declared.types.CoreSort.TheVariants as core
use Rattle.comp_format.specs.declared.types.Sort.{Sort}
use Rattle.comp_format.specs.declared.types.Sort.TheVariants as sort
use Rattle.comp_format.specs.declared.types.TypeRef.{TypeRef}
use Rattle.comp_format.specs.declared.types.TypeRef.TheVariants as description
use Rattle.comp_format.specs.declared.types.Arg.{Arg}
use Rattle.comp_format.specs.declared.types.InstanceItem.{InstanceItem}
use Rattle.comp_format.specs.declared.types.InstanceItem.TheVariants as instance
use Rattle.comp_format.specs.declared.types.CoreInstance.{CoreInstance}
use Rattle.comp_format.specs.declared.types.CoreInstance.TheVariants as core_instance
use Rattle.comp_format.specs.declared.types.Alias.{Alias}
use Rattle.comp_format.specs.declared.types.Alias.TheVariants as alias
use Rattle.comp_format.specs.Fault.{Form, NotCarried}
use Rattle.comp_format.specs.Numbers.{FormOf, Byte, Then, Number, number_at, number_text}
use Rattle.comp_format.specs.Vectors.{ReaderOf, Vector, Name, AnyName, vector_at, name_at, any_name_at, byte_at, mark_at, known_or, vector_text, name_text}

abbrev pub core_sort_code : CoreSort → ℕ
core_sort_code core.Func = 0x00
core_sort_code core.Table = 0x01
core_sort_code core.Memory = 0x02
core_sort_code core.Global = 0x03
core_sort_code core.Ty = 0x10
core_sort_code core.Module = 0x11
core_sort_code core.Instance = 0x12

abbrev pub SortForm : FormOf Sort
SortForm (sort.Core c) = Then (Byte 0) (Byte (core_sort_code c))
SortForm sort.Func = Byte 1
SortForm sort.Ty = Byte 3
SortForm sort.Component = Byte 4
SortForm sort.Instance = Byte 5

abbrev pub DescriptionForm : FormOf TypeRef
DescriptionForm (description.Module i) = Then (Byte 0) (Then (Byte 0x11) (Number i))
DescriptionForm (description.Func i) = Then (Byte 1) (Number i)
DescriptionForm (description.TyEqual i) = Then (Byte 3) (Then (Byte 0) (Number i))
DescriptionForm description.TyFresh = Then (Byte 3) (Byte 1)
DescriptionForm (description.Component i) = Then (Byte 4) (Number i)
DescriptionForm (description.Instance i) = Then (Byte 5) (Number i)

abbrev pub ArgForm : FormOf Arg
ArgForm arg = Then (Name arg.name) (Then (SortForm arg.sort) (Number arg.index))

-- the name of an export has one of two prefixes, which mean the same
abbrev pub ExportName : FormOf (List ℕ)
ExportName name bytes rest = Then (Byte 0) (Name name) bytes rest ⊎ Then (Byte 1) (Name name) bytes rest

-- an item under the name of an export
abbrev pub MemberForm : FormOf Arg
MemberForm member = Then (ExportName member.name) (Then (SortForm member.sort) (Number member.index))

abbrev pub InstanceForm : FormOf InstanceItem
InstanceForm (instance.Instantiate component args) = Then (Byte 0) (Then (Number component) (Vector ArgForm args))
InstanceForm (instance.Exports members) = Then (Byte 1) (Vector MemberForm members)

-- what an outer alias may be of
abbrev pub is_outer : Sort → Bool
is_outer (sort.Core core.Ty) = true
is_outer (sort.Core core.Module) = true
is_outer sort.Ty = true
is_outer sort.Component = true
is_outer _ = false

abbrev pub AliasForm : FormOf Alias
AliasForm (alias.Export kind from name) bytes rest = Then (SortForm kind) (Then (Byte 0) (Then (Number from) (Name name))) bytes rest
AliasForm (alias.CoreExport kind from name) bytes rest = Then (SortForm (sort.Core kind)) (Then (Byte 1) (Then (Number from) (AnyName name))) bytes rest
AliasForm (alias.Outer kind count index) bytes rest = (is_outer kind ≡ true) × Then (SortForm kind) (Then (Byte 2) (Then (Number count) (Number index))) bytes rest

-- an argument of a core module: a core instance under a name
abbrev pub CoreArgForm : FormOf (List ℕ × ℕ)
CoreArgForm arg = Then (AnyName arg.0) (Then (Byte 0x12) (Number arg.1))

-- a core item under a name
abbrev pub CoreMemberForm : FormOf (List ℕ × CoreSort × ℕ)
CoreMemberForm member = Then (AnyName member.0) (Then (Byte (core_sort_code member.1)) (Number member.2))

abbrev pub CoreInstanceForm : FormOf CoreInstance
CoreInstanceForm (core_instance.Instantiate m args) = Then (Byte 0) (Then (Number m) (Vector CoreArgForm args))
CoreInstanceForm (core_instance.Exports members) = Then (Byte 1) (Vector CoreMemberForm members)

-- reading
abbrev pub core_sort_of : ℕ → Option CoreSort
core_sort_of b =
    if b == 0x00 then Some core.Func
    else if b == 0x01 then Some core.Table
    else if b == 0x02 then Some core.Memory
    else if b == 0x03 then Some core.Global
    else if b == 0x10 then Some core.Ty
    else if b == 0x11 then Some core.Module
    else if b == 0x12 then Some core.Instance
    else None

unfoldable pub core_sort_at : ReaderOf CoreSort
core_sort_at bytes = byte_at bytes >>= λ b. known_or Form (core_sort_of b.0) b.1

unfoldable pub sort_at : ReaderOf Sort
sort_at bytes = byte_at bytes >>= λ b.
    if b.0 == 0 then (core_sort_at b.1 >>= λ c. Ok (sort.Core c.0, c.1))
    else if b.0 == 1 then Ok (sort.Func, b.1)
    else if b.0 == 2 then Err NotCarried
    else if b.0 == 3 then Ok (sort.Ty, b.1)
    else if b.0 == 4 then Ok (sort.Component, b.1)
    else if b.0 == 5 then Ok (sort.Instance, b.1)
    else Err Form

unfoldable pub type_at : ReaderOf TypeRef
type_at bytes = byte_at bytes >>= λ b.
    if b.0 == 0 then (number_at b.1 >>= λ i. Ok (description.TyEqual i.0, i.1))
    else if b.0 == 1 then Ok (description.TyFresh, b.1)
    else Err Form

unfoldable pub description_at : ReaderOf TypeRef
description_at bytes = byte_at bytes >>= λ b.
    if b.0 == 0 then (mark_at 0x11 b.1 >>= λ after. number_at after >>= λ i. Ok (description.Module i.0, i.1))
    else if b.0 == 1 then (number_at b.1 >>= λ i. Ok (description.Func i.0, i.1))
    else if b.0 == 2 then Err NotCarried
    else if b.0 == 3 then type_at b.1
    else if b.0 == 4 then (number_at b.1 >>= λ i. Ok (description.Component i.0, i.1))
    else if b.0 == 5 then (number_at b.1 >>= λ i. Ok (description.Instance i.0, i.1))
    else Err Form

unfoldable pub arg_at : ReaderOf Arg
arg_at bytes = do
  name ← name_at bytes
  kind ← sort_at name.1
  index ← number_at kind.1
  Ok (record { name = name.0; sort = kind.0; index = index.0 }, index.1)

unfoldable pub export_name_at : ReaderOf (List ℕ)
export_name_at bytes = byte_at bytes >>= λ b. if b.0 == 0 then name_at b.1 else if b.0 == 1 then name_at b.1 else Err Form

unfoldable pub member_at : ReaderOf Arg
member_at bytes = do
  name ← export_name_at bytes
  kind ← sort_at name.1
  index ← number_at kind.1
  Ok (record { name = name.0; sort = kind.0; index = index.0 }, index.1)

unfoldable pub instantiate_at : ReaderOf InstanceItem
instantiate_at bytes = do
  component ← number_at bytes
  args ← vector_at arg_at component.1
  Ok (instance.Instantiate component.0 args.0, args.1)

unfoldable pub instance_at : ReaderOf InstanceItem
instance_at bytes = byte_at bytes >>= λ b.
    if b.0 == 0 then instantiate_at b.1
    else if b.0 == 1 then (vector_at member_at b.1 >>= λ members. Ok (instance.Exports members.0, members.1))
    else Err Form

-- what an alias of this sort is behind it
unfoldable pub alias_export_at : Sort → ReaderOf Alias
alias_export_at kind bytes = number_at bytes >>= λ from. name_at from.1 >>= λ name. Ok (alias.Export kind from.0 name.0, name.1)

unfoldable pub core_export_at : CoreSort → ReaderOf Alias
core_export_at kind bytes = number_at bytes >>= λ from. any_name_at from.1 >>= λ name. Ok (alias.CoreExport kind from.0 name.0, name.1)

unfoldable pub outer_at : Sort → ReaderOf Alias
outer_at kind bytes = number_at bytes >>= λ count. number_at count.1 >>= λ index. Ok (alias.Outer kind count.0 index.0, index.1)

-- core exports have core sorts
abbrev pub of_core : Sort → ReaderOf Alias
of_core (sort.Core kind) bytes = core_export_at kind bytes
of_core _ bytes = Err Form

unfoldable pub target_at : Sort → ReaderOf Alias
target_at kind bytes = byte_at bytes >>= λ b.
    if b.0 == 0 then alias_export_at kind b.1
    else if b.0 == 1 then of_core kind b.1
    else if b.0 == 2 then (if is_outer kind then outer_at kind b.1 else Err Form)
    else Err Form

unfoldable pub alias_at : ReaderOf Alias
alias_at bytes = sort_at bytes >>= λ kind. target_at kind.0 kind.1

unfoldable pub core_arg_at : ReaderOf (List ℕ × ℕ)
core_arg_at bytes = do
  name ← any_name_at bytes
  after ← mark_at 0x12 name.1
  index ← number_at after
  Ok ((name.0, index.0), index.1)

unfoldable pub core_member_at : ReaderOf (List ℕ × CoreSort × ℕ)
core_member_at bytes = do
  name ← any_name_at bytes
  kind ← core_sort_at name.1
  index ← number_at kind.1
  Ok ((name.0, kind.0, index.0), index.1)

unfoldable pub core_instantiate_at : ReaderOf CoreInstance
core_instantiate_at bytes = do
  m ← number_at bytes
  args ← vector_at core_arg_at m.1
  Ok (core_instance.Instantiate m.0 args.0, args.1)

unfoldable pub core_instance_at : ReaderOf CoreInstance
core_instance_at bytes = byte_at bytes >>= λ b.
    if b.0 == 0 then core_instantiate_at b.1
    else if b.0 == 1 then (vector_at core_member_at b.1 >>= λ members. Ok (core_instance.Exports members.0, members.1))
    else Err Form

-- writing
abbrev pub sort_text : Sort → List ℕ
sort_text (sort.Core c) = 0 ∷ core_sort_code c ∷ []
sort_text sort.Func = 1 ∷ []
sort_text sort.Ty = 3 ∷ []
sort_text sort.Component = 4 ∷ []
sort_text sort.Instance = 5 ∷ []

abbrev pub description_text : TypeRef → List ℕ
description_text (description.Module i) = 0 ∷ 0x11 ∷ number_text i
description_text (description.Func i) = 1 ∷ number_text i
description_text (description.TyEqual i) = 3 ∷ 0 ∷ number_text i
description_text description.TyFresh = 3 ∷ 1 ∷ []
description_text (description.Component i) = 4 ∷ number_text i
description_text (description.Instance i) = 5 ∷ number_text i

abbrev pub arg_text : Arg → List ℕ
arg_text arg = name_text arg.name ++ (sort_text arg.sort ++ number_text arg.index)

abbrev pub member_text : Arg → List ℕ
member_text member = (0 ∷ name_text member.name) ++ (sort_text member.sort ++ number_text member.index)

abbrev pub instance_text : InstanceItem → List ℕ
instance_text (instance.Instantiate component args) = 0 ∷ (number_text component ++ vector_text arg_text args)
instance_text (instance.Exports members) = 1 ∷ vector_text member_text members

abbrev pub alias_text : Alias → List ℕ
alias_text (alias.Export kind from name) = sort_text kind ++ (0 ∷ (number_text from ++ name_text name))
alias_text (alias.CoreExport kind from name) = sort_text (sort.Core kind) ++ (1 ∷ (number_text from ++ name_text name))
alias_text (alias.Outer kind count index) = sort_text kind ++ (2 ∷ (number_text count ++ number_text index))

abbrev pub core_arg_text : List ℕ × ℕ → List ℕ
core_arg_text arg = name_text arg.0 ++ (0x12 ∷ number_text arg.1)

abbrev pub core_member_text : List ℕ × CoreSort × ℕ → List ℕ
core_member_text member = name_text member.0 ++ (core_sort_code member.1 ∷ number_text member.2)

abbrev pub core_instance_text : CoreInstance → List ℕ
core_instance_text (core_instance.Instantiate m args) = 0 ∷ (number_text m ++ vector_text core_arg_text args)
core_instance_text (core_instance.Exports members) = 1 ∷ vector_text core_member_text members
