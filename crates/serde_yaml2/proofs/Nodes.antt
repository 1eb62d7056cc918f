-- Values of any kind that hold others.
use Rattle.std.proofs.Common.{◌≡◌, ℕ, List, [], ◌∷◌, refl, sym, ap, ◌∙◌, map as all}
use Rattle.yaml_small.specs.declared.yaml.Yaml.{Yaml, fold-roll-Yaml}
use Rattle.yaml_small.specs.declared.yaml.Yaml.TheOpen as layer
use Rattle.yaml_small.specs.declared.yaml.Yaml.TheVariants as made
use Rattle.yaml_small.specs.declared.yaml.YamlList.{YamlList}
use Rattle.yaml_small.specs.declared.yaml.YamlPairs.{YamlPairs}
use Rattle.yaml_small.specs.Data.{Data, Items, Members}
use Rattle.yaml_small.specs.View.{list_view, pairs_view, items_view, members_view, yaml_step, list_step, pairs_step}
use Rattle.yaml_text.specs.Written.{elements_of, members_of, list, map, element, member}
use Rattle.yaml_read.specs.Entries.{seen_entry}
use Rattle.serde_yaml2.specs.Values.{list_of, map_of}
use Rattle.serde_yaml2.specs.Nodes.{data_written, items_written, members_written, node_written}

items_are : (xs : List Yaml) → items_written (items_view xs) ≡ elements_of (all node_written xs)
items_are [] = refl
items_are (x ∷ xs) = ap (element (node_written x)) (items_are xs)

members_are : (ps : List (List ℕ × Yaml)) → members_written (members_view ps) ≡ members_of (all (seen_entry node_written) ps)
members_are [] = refl
members_are (p ∷ ps) = ap (member p.0 (node_written p.1)) (members_are ps)

-- a list of values
pub array_written : (node : Yaml) (l : YamlList) (xs : List Yaml) → node ≡ made.Array l → items_view xs ≡ list_view l → node_written node ≡ list_of node_written xs
array_written node l xs is holds =
    ap node_written is ∙ ap node_written (sym (made.rolls-Array l)) ∙ ap data_written (fold-roll-Yaml Data Items Members yaml_step list_step pairs_step (layer.Array l))
    ∙ ap (λ (ds : Items). list (items_written ds)) (sym holds) ∙ ap list (items_are xs)

-- a map of pairs
pub hash_written : (node : Yaml) (p : YamlPairs) (ps : List (List ℕ × Yaml)) → node ≡ made.Hash p → members_view ps ≡ pairs_view p → node_written node ≡ map_of node_written ps
hash_written node p ps is holds =
    ap node_written is ∙ ap node_written (sym (made.rolls-Hash p)) ∙ ap data_written (fold-roll-Yaml Data Items Members yaml_step list_step pairs_step (layer.Hash p))
    ∙ ap (λ (ms : Members). map (members_written ms)) (sym holds) ∙ ap map (members_are ps)
