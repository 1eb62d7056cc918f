-- Parts of value types, as trees.
use Rattle.std.specs.Prelude.{Box, ℕ, List, Option, option_map}
use Rattle.std.specs.Global.{Global}
use Rattle.comp_entity.specs.declared.entity.ValueShape.{ValueShape}
use Rattle.comp_entity.specs.Entity.{ValueTree, Payload}
use Rattle.comp_entity.specs.Views.{value_tree, payload_of}

-- what a case or a function holds or gives, and what a result holds
abbrev pub held_tree : Option ValueShape → Payload
held_tree held = payload_of (option_map value_tree held)

abbrev pub boxed_tree : Option (Box ValueShape Global) → Payload
boxed_tree held = payload_of (option_map (λ (t : Box ValueShape Global). value_tree t.value) held)

abbrev pub field_tree : List ℕ × ValueShape → List ℕ × ValueTree
field_tree f = (f.0, value_tree f.1)

abbrev pub case_tree : List ℕ × Option ValueShape → List ℕ × Option ValueTree
case_tree c = (c.0, option_map value_tree c.1)
