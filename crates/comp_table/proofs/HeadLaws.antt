-- Laws of heads as numbers: no two heads have the same kind, numbers and label.
use Rattle.std.proofs.Common.{◌≡◌, ℕ, Bool, true, false, List, [], ◌∷◌, Option, Some, None, refl, ap, sym, ◌∙◌}
use Rattle.std.specs.Prelude.{◌==◌, if◌then◌else◌}
use Rattle.comp_format.specs.declared.types.Primitive.{Primitive}
use Rattle.comp_format.specs.declared.types.Primitive.TheVariants as primitive
use Rattle.comp_format.specs.declared.core_types.CoreVal.{CoreVal}
use Rattle.comp_format.specs.declared.core_types.CoreVal.TheVariants as core_value
use Rattle.comp_format.specs.declared.core_types.Limits.{Limits}
use Rattle.comp_format.specs.CoreTypes.{core_value_code, core_value_of, mutable_code}
use Rattle.comp_format.specs.Types.{primitive_code, primitive_of}
use Rattle.comp_entity.specs.Entity.{Name}
use Rattle.comp_table.specs.declared.head.Head.{Head}
use Rattle.comp_table.specs.declared.head.Head.TheVariants as head
use Rattle.comp_table.specs.Heads.{head_code, head_numbers, head_label, most_numbers, limits_numbers, place_numbers}
use Rattle.comp_table.specs.Table.{node_key}

abbrev first_of : List ℕ → ℕ
first_of [] = 0
first_of (n ∷ ns) = n

abbrev behind : List ℕ → List ℕ
behind [] = []
behind (n ∷ ns) = ns

-- heads, and what stands in them, read back from their numbers
abbrev name_of : List ℕ → Name
name_of ns = record { out = first_of ns; number = first_of (behind ns) }

abbrev place_of : List ℕ → Option Name
place_of [] = None
place_of (n ∷ ns) = Some (name_of (n ∷ ns))

abbrev most_of : List ℕ → Option ℕ
most_of [] = None
most_of (n ∷ ns) = Some n

abbrev limits_of : List ℕ → Limits
limits_of ns = record { min = first_of ns; max = most_of (behind ns) }

abbrev or_core_value : Option CoreVal → CoreVal
or_core_value (Some v) = v
or_core_value None = core_value.V7f

abbrev core_value_in : ℕ → CoreVal
core_value_in n = or_core_value (core_value_of n)

abbrev or_primitive : Option Primitive → Primitive
or_primitive (Some p) = p
or_primitive None = primitive.Bool

abbrev bit_of : ℕ → Bool
bit_of n = n == 1

abbrev small_head : ℕ → List ℕ → List ℕ → Head
small_head k ns label =
    if k == 1 then head.Func
    else if k == 4 then head.Component
    else if k == 5 then head.Instance
    else if k == 0x11 then head.Module
    else if k == 0x12 then head.OwnModule
    else if k == 0x20 then head.Absent
    else if k == 0x21 then head.Label label
    else if k == 0x22 then head.Entries
    else if k == 0x23 then head.Entry (bit_of (first_of ns)) label
    else if k == 0x30 then head.CoreFunc
    else if k == 0x31 then head.CoreTable (core_value_in (first_of ns)) (limits_of (behind ns))
    else if k == 0x32 then head.CoreMemory (limits_of ns)
    else if k == 0x33 then head.CoreGlobal (core_value_in (first_of ns)) (bit_of (first_of (behind ns)))
    else if k == 0x34 then head.CoreValue (core_value_in (first_of ns))
    else head.Primitive (or_primitive (primitive_of k))

abbrev head_of : ℕ → List ℕ → List ℕ → Head
head_of k ns label =
    if k == 0x72 then head.RecordOf (place_of ns)
    else if k == 0x71 then head.VariantOf (place_of ns)
    else if k == 0x70 then head.ListOf
    else if k == 0x6f then head.TupleOf
    else if k == 0x6e then head.FlagsOf (place_of ns)
    else if k == 0x6d then head.EnumOf (place_of ns)
    else if k == 0x6b then head.OptionOf
    else if k == 0x6a then head.ResultOf
    else if k == 0x69 then head.Own (name_of ns)
    else if k == 0x68 then head.Borrow (name_of ns)
    else if k == 0x42 then head.InstanceType
    else if k == 0x41 then head.ComponentType
    else if k == 0x40 then head.FuncType
    else if k == 0x3f then head.Resource (name_of ns)
    else small_head k ns label

place_again : (p : Option Name) → place_of (place_numbers p) ≡ p
place_again None = refl
place_again (Some n) = refl

most_again : (m : Option ℕ) → most_of (most_numbers m) ≡ m
most_again None = refl
most_again (Some n) = refl

limits_again : (l : Limits) → limits_of (limits_numbers l) ≡ l
limits_again l = λ i. record { min = l.min; max = most_again l.max i }

bit_again : (b : Bool) → bit_of (mutable_code b) ≡ b
bit_again true = refl
bit_again false = refl

core_value_again : (v : CoreVal) → core_value_in (core_value_code v) ≡ v
core_value_again core_value.V7f = refl
core_value_again core_value.V7e = refl
core_value_again core_value.V7d = refl
core_value_again core_value.V7c = refl
core_value_again core_value.V7b = refl
core_value_again core_value.V70 = refl
core_value_again core_value.V6f = refl

primitive_again : (p : Primitive) → head_of (primitive_code p) [] [] ≡ head.Primitive p
primitive_again primitive.Bool = refl
primitive_again primitive.S8 = refl
primitive_again primitive.U8 = refl
primitive_again primitive.S16 = refl
primitive_again primitive.U16 = refl
primitive_again primitive.S32 = refl
primitive_again primitive.U32 = refl
primitive_again primitive.S64 = refl
primitive_again primitive.U64 = refl
primitive_again primitive.F32 = refl
primitive_again primitive.F64 = refl
primitive_again primitive.Char = refl
primitive_again primitive.Text = refl

head_again : (h : Head) → head_of (head_code h) (head_numbers h) (head_label h) ≡ h
head_again (head.Primitive p) = primitive_again p
head_again (head.RecordOf place) = ap head.RecordOf (place_again place)
head_again (head.VariantOf place) = ap head.VariantOf (place_again place)
head_again (head.FlagsOf place) = ap head.FlagsOf (place_again place)
head_again (head.EnumOf place) = ap head.EnumOf (place_again place)
head_again head.ListOf = refl
head_again head.TupleOf = refl
head_again head.OptionOf = refl
head_again head.ResultOf = refl
head_again (head.Own r) = refl
head_again (head.Borrow r) = refl
head_again head.Absent = refl
head_again (head.Label label) = refl
head_again head.FuncType = refl
head_again (head.Resource r) = refl
head_again head.InstanceType = refl
head_again head.ComponentType = refl
head_again head.Entries = refl
head_again (head.Entry mark name) = ap (λ b. head.Entry b name) (bit_again mark)
head_again head.Func = refl
head_again head.Instance = refl
head_again head.Component = refl
head_again head.Module = refl
head_again head.OwnModule = refl
head_again head.CoreFunc = refl
head_again (head.CoreTable v limits) = λ i. head.CoreTable (core_value_again v i) (limits_again limits i)
head_again (head.CoreMemory limits) = ap head.CoreMemory (limits_again limits)
head_again (head.CoreGlobal v is_mutable) = λ i. head.CoreGlobal (core_value_again v i) (bit_again is_mutable i)
head_again (head.CoreValue v) = ap head.CoreValue (core_value_again v)

-- nodes of one key have one head
pub same_head : (g h : Head) (ps qs : List ℕ) → node_key g ps ≡ node_key h qs → g ≡ h
same_head g h ps qs e = sym (head_again g) ∙ (λ i. head_of (e i).kind (e i).numbers (e i).label) ∙ head_again h
