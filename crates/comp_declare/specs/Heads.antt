-- What the head of a type's tree tells of the type.
use Rattle.std.specs.Prelude.{Bool, true, false, Option, Some, None}
use Rattle.comp_entity.specs.Entity.{Name}
use Rattle.comp_table.specs.declared.head.Head.{Head}
use Rattle.comp_table.specs.declared.head.Head.TheVariants as head

-- a record, a variant, flags or an enum under the name of a place, where none named it before
abbrev pub named_head : Name → Head → Option Head
named_head place (head.RecordOf None) = Some (head.RecordOf (Some place))
named_head place (head.VariantOf None) = Some (head.VariantOf (Some place))
named_head place (head.FlagsOf None) = Some (head.FlagsOf (Some place))
named_head place (head.EnumOf None) = Some (head.EnumOf (Some place))
named_head place _ = None

abbrev pub is_resource : Head → Bool
is_resource (head.Resource r) = true
is_resource _ = false

-- the head is that of a type of instances
abbrev pub is_instance_type : Head → Bool
is_instance_type head.InstanceType = true
is_instance_type _ = false
