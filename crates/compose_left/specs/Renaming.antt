-- What copies of types and entities with changed names are.
use Rattle.std.specs.Prelude.{ℕ, suc, ◌+◌, ◌*◌, Box, List, Option, Some, option_map, unwrap_or}
use Rattle.std.specs.BTreeMap.{BTreeMap, get}
use Rattle.std.specs.Global.{Global}
use Rattle.comp_entity.specs.declared.entity.ValueShape.{ValueShape}
use Rattle.comp_entity.specs.Entity.{Name, made, ValueTree, EntityTree}
use Rattle.comp_entity.specs.Names.{Change, changing, value_by, entity_by, entries_by}
use Rattle.comp_entity.specs.Views.{value_tree, Sides}
use Rattle.compose_left.specs.declared.known.Origins.{Origins}
use Rattle.compose_left.specs.declared.origin.Held.{Held}
use Rattle.compose_left.specs.declared.spots.Thing.{Thing}
use Rattle.compose_left.specs.declared.renaming.Renaming.{Renaming}
use Rattle.compose_left.specs.declared.renaming.Renaming.TheVariants as renaming
use Rattle.compose_left.specs.Spots.{resource, named_type}
use Rattle.compose_left.specs.Numbers.{held_cmp}
use Rattle.compose_left.specs.Wired.{thing_cmp}

abbrev pub number_held : Origins → Held → ℕ
number_held o h = unwrap_or (get held_cmp o.numbers h) (h.thing.number * suc o.instances + h.instance)

abbrev pub no_change : Change
no_change = record { resource = λ depth n. n; place = λ depth n. Some n; mark = λ m. m }

abbrev pub number_at : Origins → ℕ → Thing → Name
number_at o at t = made (number_held o (record { instance = at; thing = t }))

-- what a resource, and a place that named a type, of an instance are called by the numbers of their origins
abbrev pub placed_resource : Origins → ℕ → Name → Name
placed_resource o at n = number_at o at (resource n)

abbrev pub placed_type : Origins → ℕ → Name → Name
placed_type o at n = number_at o at (named_type n)

-- what a named type is called, where a name is found for it
abbrev pub called_name : BTreeMap Thing Name → Name → Name
called_name names n = unwrap_or (get thing_cmp names (named_type n)) n

abbrev pub change_of : Renaming → Change
change_of renaming.Same = no_change
change_of (renaming.Placed origins at) = changing (placed_resource origins.now at) (placed_type origins.now at)
change_of (renaming.Called names) = changing (λ n. n) (called_name names.now)

abbrev pub boxed_trees : Option (Box ValueShape Global) → Option ValueTree
boxed_trees held = option_map (λ (t : Box ValueShape Global). value_tree t.value) held

abbrev pub field_tree : List ℕ × ValueShape → List ℕ × ValueTree
field_tree f = (f.0, value_tree f.1)

abbrev pub case_tree : List ℕ × Option ValueShape → List ℕ × Option ValueTree
case_tree c = (c.0, option_map value_tree c.1)

abbrev pub field_by : Change → ℕ → List ℕ × ValueTree → List ℕ × ValueTree
field_by c d f = (f.0, value_by c d f.1)

abbrev pub case_by : Change → ℕ → List ℕ × Option ValueTree → List ℕ × Option ValueTree
case_by c d f = (f.0, option_map (value_by c d) f.1)

abbrev pub entry_by : Change → ℕ → List ℕ × EntityTree → List ℕ × EntityTree
entry_by c d f = (f.0, entity_by c d f.1)

abbrev pub sides_by : Change → ℕ → Sides → Sides
sides_by c d s = record { imports = entries_by c (suc (suc d)) s.imports; exports = entries_by c (suc (suc d)) s.exports }
