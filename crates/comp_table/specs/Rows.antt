-- What stands in memory below a type or an entity, as trees of heads: a tree for each row of a list.
use Rattle.std.specs.Prelude.{ℕ, true, List, map, Option, option_map, Box}
use Rattle.std.specs.Global.{Global}
use Rattle.comp_format.specs.declared.core_types.CoreVal.{CoreVal}
use Rattle.comp_entity.specs.declared.entity.ValueShape.{ValueShape}
use Rattle.comp_entity.specs.declared.entity.TypeShape.{TypeShape}
use Rattle.comp_entity.specs.declared.entity.Entity.{Entity}
use Rattle.comp_entity.specs.Views.{value_tree, payload_of, type_tree, entity_tree}
use Rattle.comp_table.specs.declared.head.Head.TheVariants as head
use Rattle.comp_table.specs.Trees.{PlainTree, tree, trees_of}
use Rattle.comp_table.specs.Plain.{leaf, around, under_label, plain_value, plain_payload, plain_type, plain_entity}

abbrev pub value_plain : ValueShape → PlainTree
value_plain v = plain_value (value_tree v)

-- what a case holds, and what a side of a result holds
abbrev pub held_plain : Option ValueShape → PlainTree
held_plain v = plain_payload (payload_of (option_map value_tree v))

abbrev pub boxed_plain : Option (Box ValueShape Global) → PlainTree
boxed_plain v = plain_payload (payload_of (option_map (λ (b : Box ValueShape Global). value_tree b.value) v))

abbrev pub label_plain : List ℕ → PlainTree
label_plain label = leaf (head.Label label)

-- a field or a parameter, and a case
abbrev pub field_plain : List ℕ × ValueShape → PlainTree
field_plain f = under_label f.0 (value_plain f.1)

abbrev pub case_plain : List ℕ × Option ValueShape → PlainTree
case_plain c = under_label c.0 (held_plain c.1)

abbrev pub core_value_plain : CoreVal → PlainTree
core_value_plain v = leaf (head.CoreValue v)

abbrev pub type_plain : TypeShape → PlainTree
type_plain t = plain_type (type_tree t)

abbrev pub entity_plain : Entity → PlainTree
entity_plain e = plain_entity (entity_tree e)

-- an import or an export, which may be named
abbrev pub entry_plain : List ℕ × Entity → PlainTree
entry_plain e = around (head.Entry true e.0) (entity_plain e.1)

abbrev pub entries_plain : List (List ℕ × Entity) → PlainTree
entries_plain es = tree head.Entries (trees_of (map entry_plain es))
