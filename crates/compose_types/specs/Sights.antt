-- What may be mentioned where an entity stands: what a state knows, and what stands before it.
use Rattle.std.specs.Prelude.{ℕ, Bool, List, Option}
use Rattle.comp_entity.specs.Names.{Mention, in_value, in_payload}
use Rattle.comp_entity.specs.Views.{value_tree, entries_of, named_entities}
use Rattle.comp_entity.specs.declared.entity.ValueShape.{ValueShape}
use Rattle.compose_writing.specs.Conditions.{with_these, all_known}
use Rattle.compose_writing.specs.Keys.{from_within}
use Rattle.compose_writing.specs.Scopes.{knows}
use Rattle.compose_meaning.specs.Readable.{keys_among}
use Rattle.compose_types.specs.declared.sights.Sight.{Sight, fold-Sight}
use Rattle.compose_types.specs.declared.sights.Sight.TheOpen.{Sight-F}
use Rattle.compose_types.specs.declared.sights.Sight.TheOpen as layer
use Rattle.compose_types.specs.Scopes.{scopes}
use Rattle.compose_types.specs.Values.{held_tree}

abbrev pub sight_step : Sight-F (Mention → Bool) → Mention → Bool
sight_step (layer.State s) = knows (scopes s.now)
sight_step (layer.Behind entries around) = with_these around.now (keys_among (entries_of (named_entities entries.now)))
sight_step (layer.Within width around) = from_within width around.now

abbrev pub sees : Sight → Mention → Bool
sees = fold-Sight (Mention → Bool) sight_step

-- a part of a value type mentions nothing but what is known
abbrev pub part_known : (Mention → Bool) → ValueShape → Bool
part_known known t = all_known known (in_value 0 (value_tree t))

abbrev pub field_known : (Mention → Bool) → List ℕ × ValueShape → Bool
field_known known f = part_known known f.1

abbrev pub held_known : (Mention → Bool) → Option ValueShape → Bool
held_known known held = all_known known (in_payload 0 (held_tree held))

abbrev pub case_known : (Mention → Bool) → List ℕ × Option ValueShape → Bool
case_known known c = held_known known c.1
