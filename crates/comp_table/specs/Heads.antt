-- Heads as numbers and a label, by which nodes are ordered and found. The numbers tell heads apart; what has a byte in
-- the Component Model's Binary.md has that byte.
use Rattle.std.specs.Prelude.{ℕ, List, [], ◌∷◌, Option, Some, None}
use Rattle.comp_format.specs.declared.core_types.Limits.{Limits}
use Rattle.comp_format.specs.CoreTypes.{core_value_code, mutable_code}
use Rattle.comp_format.specs.Types.{primitive_code}
use Rattle.comp_entity.specs.Entity.{Name}
use Rattle.comp_table.specs.declared.head.Head.{Head}
use Rattle.comp_table.specs.declared.head.Head.TheVariants as head

-- the kind of a head
abbrev pub head_code : Head → ℕ
head_code (head.Primitive p) = primitive_code p
head_code (head.RecordOf place) = 0x72
head_code (head.VariantOf place) = 0x71
head_code head.ListOf = 0x70
head_code head.TupleOf = 0x6f
head_code (head.FlagsOf place) = 0x6e
head_code (head.EnumOf place) = 0x6d
head_code head.OptionOf = 0x6b
head_code head.ResultOf = 0x6a
head_code (head.Own r) = 0x69
head_code (head.Borrow r) = 0x68
head_code head.ComponentType = 0x41
head_code head.InstanceType = 0x42
head_code head.FuncType = 0x40
head_code (head.Resource r) = 0x3f
head_code head.Func = 1
head_code head.Component = 4
head_code head.Instance = 5
head_code head.Module = 0x11
head_code head.OwnModule = 0x12
head_code head.Absent = 0x20
head_code (head.Label label) = 0x21
head_code head.Entries = 0x22
head_code (head.Entry mark name) = 0x23
head_code head.CoreFunc = 0x30
head_code (head.CoreTable v limits) = 0x31
head_code (head.CoreMemory limits) = 0x32
head_code (head.CoreGlobal v is_mutable) = 0x33
head_code (head.CoreValue v) = 0x34

abbrev pub name_numbers : Name → List ℕ
name_numbers n = n.out ∷ n.number ∷ []

abbrev pub place_numbers : Option Name → List ℕ
place_numbers None = []
place_numbers (Some n) = name_numbers n

abbrev pub most_numbers : Option ℕ → List ℕ
most_numbers None = []
most_numbers (Some most) = most ∷ []

abbrev pub limits_numbers : Limits → List ℕ
limits_numbers l = l.min ∷ most_numbers l.max

-- what a head has besides its kind and its label
abbrev pub head_numbers : Head → List ℕ
head_numbers (head.RecordOf place) = place_numbers place
head_numbers (head.VariantOf place) = place_numbers place
head_numbers (head.FlagsOf place) = place_numbers place
head_numbers (head.EnumOf place) = place_numbers place
head_numbers (head.Own r) = name_numbers r
head_numbers (head.Borrow r) = name_numbers r
head_numbers (head.Resource r) = name_numbers r
head_numbers (head.Entry mark name) = mutable_code mark ∷ []
head_numbers (head.CoreTable v limits) = core_value_code v ∷ limits_numbers limits
head_numbers (head.CoreMemory limits) = limits_numbers limits
head_numbers (head.CoreGlobal v is_mutable) = core_value_code v ∷ mutable_code is_mutable ∷ []
head_numbers (head.CoreValue v) = core_value_code v ∷ []
head_numbers _ = []

-- a head's label, where it has one
abbrev pub head_label : Head → List ℕ
head_label (head.Label label) = label
head_label (head.Entry mark name) = name
head_label _ = []
