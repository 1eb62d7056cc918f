-- Components as they lie in memory: each under its number, and found by its name.
use Rattle.std.specs.Prelude.{◌≡◌, ℕ, List, map, option_map, String}
use Rattle.std.specs.BTreeMap.{BTreeMap, get_by_text}
use Rattle.std.specs.Global.{Global}
use Rattle.std.specs.List.{AllByRecursion}
use Rattle.std.specs.Map.{keys_of}
use Rattle.comp_table.specs.Trees.{PlainTree}
use Rattle.compose_component.specs.Component.{shape_of}
use Rattle.compose_graph.specs.Graph.{ComponentEntry, component_named}
use Rattle.compose_graph.specs.Kept.{CountUp, HaveOwnNames}
use Rattle.compose_graph.specs.Listed.{HeldComponent, ComponentList, component_entries, held_component}
use Rattle.compose_graph.specs.Loose.{IsLoosened}
use Rattle.compose_graph.specs.declared.part.Part.{Part}

-- the components that are there, each under its number
abbrev pub held_part : ℕ × Part → HeldComponent
held_part e = held_component e.0 e.1.component

abbrev pub held : List (ℕ × Part) → List HeldComponent
held es = map held_part es

abbrev pub held_list : List (ℕ × Part) → ℕ → ComponentList
held_list es next = record { entries = held es; next = next }

-- what is found under a name is the number of the component of this name
abbrev pub FindsComponents : BTreeMap (String Global) ℕ → List ComponentEntry → Type 0
FindsComponents numbers cs = (name : List ℕ) → get_by_text numbers name ≡ option_map (λ (c : ComponentEntry). c.id) (component_named cs name)

pub record AreParts (entries : List (ℕ × Part)) (numbers : BTreeMap (String Global) ℕ) (ts : List PlainTree) (next : ℕ) : Type 0 where
  pub ids : CountUp 0 (keys_of entries) next
  pub own_names : HaveOwnNames (component_entries (held entries))
  pub found : FindsComponents numbers (component_entries (held entries))
  pub loosened : AllByRecursion (λ (e : ℕ × Part). IsLoosened ts e.1.loose (shape_of e.1.component)) entries
