-- What lies in memory of values, as trees mention it.
use Rattle.std.specs.Prelude.{Box, ℕ, List, flat_map, Option, option_map, option_to_list}
use Rattle.std.specs.Global.{Global}
use Rattle.comp_entity.specs.declared.entity.ValueShape.{ValueShape}
use Rattle.comp_entity.specs.Entity.{ValueTree, Payload}
use Rattle.comp_entity.specs.Names.{Mention, in_value}
use Rattle.comp_entity.specs.Views.{payload_of, value_tree}

abbrev pub boxed_tree : Box ValueShape Global → ValueTree
boxed_tree t = value_tree t.value

abbrev pub boxed_payload : Option (Box ValueShape Global) → Payload
boxed_payload held = payload_of (option_map boxed_tree held)

abbrev pub in_field : ℕ → List ℕ × ValueTree → List (ℕ × Mention)
in_field d f = in_value d f.1

abbrev pub in_result : ℕ → Option ValueTree → List (ℕ × Mention)
in_result d held = flat_map (in_value d) (option_to_list held)
