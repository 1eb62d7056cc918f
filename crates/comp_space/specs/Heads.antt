-- What the head of an entity's tree tells of the entity.
use Rattle.std.specs.Prelude.{Bool, true, false, None}
use Rattle.comp_format.specs.declared.types.CoreSort.TheVariants as core
use Rattle.comp_format.specs.declared.types.Sort.{Sort}
use Rattle.comp_format.specs.declared.types.Sort.TheVariants as sort
use Rattle.comp_table.specs.declared.head.Head.{Head}
use Rattle.comp_table.specs.declared.head.Head.TheVariants as head

-- the head is that of a value type
abbrev pub is_value_head : Head → Bool
is_value_head (head.Primitive p) = true
is_value_head (head.RecordOf place) = true
is_value_head (head.VariantOf place) = true
is_value_head (head.FlagsOf place) = true
is_value_head (head.EnumOf place) = true
is_value_head head.ListOf = true
is_value_head head.TupleOf = true
is_value_head head.OptionOf = true
is_value_head head.ResultOf = true
is_value_head (head.Own r) = true
is_value_head (head.Borrow r) = true
is_value_head _ = false

-- a record, a variant, flags and an enum need the name of a place, so that they may be named
abbrev pub has_name : Head → Bool
has_name (head.RecordOf None) = false
has_name (head.VariantOf None) = false
has_name (head.FlagsOf None) = false
has_name (head.EnumOf None) = false
has_name _ = true

-- the sort of an entity of this head
abbrev pub sort_of_head : Head → Sort
sort_of_head head.Func = sort.Func
sort_of_head head.Instance = sort.Instance
sort_of_head head.Component = sort.Component
sort_of_head head.Module = sort.Core core.Module
sort_of_head head.OwnModule = sort.Core core.Module
sort_of_head _ = sort.Ty

-- the head is that of a type of functions, and of a type of components
abbrev pub is_func_type : Head → Bool
is_func_type head.FuncType = true
is_func_type _ = false

abbrev pub is_component_type : Head → Bool
is_component_type head.ComponentType = true
is_component_type _ = false
