-- The plain trees of values, lists and pairs.
use Rattle.std.specs.Prelude.{ℕ, List, map}
use Rattle.yaml_small.specs.declared.yaml.Yaml.{Yaml, fold-Yaml}
use Rattle.yaml_small.specs.declared.yaml.Yaml.TheFolds.{fold-YamlList, fold-YamlPairs}
use Rattle.yaml_small.specs.declared.yaml.Yaml.TheOpen.{Yaml-F, YamlList-F, YamlPairs-F}
use Rattle.yaml_small.specs.declared.yaml.YamlList.{YamlList}
use Rattle.yaml_small.specs.declared.yaml.YamlPairs.{YamlPairs}
use Rattle.yaml_small.specs.Data.{Data, Items, Members, integer, text, boolean, array, hash, null, items_of, members_of}

-- one level, with what it holds already seen as trees
abbrev pub yaml_step : Yaml-F Data Items Members → Data
yaml_step (Yaml-F.Integer n) = integer n
yaml_step (Yaml-F.Text t) = text t
yaml_step (Yaml-F.Boolean b) = boolean b
yaml_step (Yaml-F.Array items) = array items
yaml_step (Yaml-F.Hash members) = hash members
yaml_step Yaml-F.Null = null

abbrev pub list_step : YamlList-F Data Items Members → Items
list_step l = items_of l.items.items

abbrev pub pairs_step : YamlPairs-F Data Items Members → Members
pairs_step p = members_of p.pairs.items

abbrev pub view : Yaml → Data
view = fold-Yaml Data Items Members yaml_step list_step pairs_step

abbrev pub list_view : YamlList → Items
list_view = fold-YamlList Data Items Members yaml_step list_step pairs_step

abbrev pub pairs_view : YamlPairs → Members
pairs_view = fold-YamlPairs Data Items Members yaml_step list_step pairs_step

-- the trees of a list's values, and of pairs
abbrev pub items_view : List Yaml → Items
items_view items = items_of (map view items)

abbrev pub members_view : List (List ℕ × Yaml) → Members
members_view pairs = members_of (map (λ p. (p.0, view p.1)) pairs)
