use Rattle.std.proofs.Common.{◌≡◌, ◌+◌, ◌-◌, ◌*◌, [], map}
use Rattle.yaml_small.specs.View.{view}
use Rattle.yaml_read.specs.Any.{data_at, item_takes, entry_takes}
use Rattle.yaml_read.specs.Collections.{items_at, entries_at}
use Rattle.yaml_read.specs.Entries.{seen_entry}
use Rattle.yaml_read.specs.Answers.{source_of}
use Rattle.yaml_read.proofs.deserializer.YamlDeserializer.+data.Given as goal

abbrev pub decreases-data_within : goal.decreases-data_within
decreases-data_within l = 4 * l.levels

abbrev pub decreases-part_within : goal.decreases-part_within
decreases-part_within l = 4 * l.levels + 1

abbrev pub decreases-items_within : goal.decreases-items_within
decreases-items_within l = 4 * l.levels + 2

abbrev pub decreases-entries_within : goal.decreases-entries_within
decreases-entries_within l = 4 * l.levels + 2

abbrev pub decreases-list_within : goal.decreases-list_within
decreases-list_within l = 4 * l.levels + 3

abbrev pub decreases-map_within : goal.decreases-map_within
decreases-map_within l = 4 * l.levels + 3

-- the items from here on are those from the start on
abbrev pub invariant-items_within-loop : goal.invariant-items_within-loop
invariant-items_within-loop l =
    items_at (item_takes (data_at l.levels)) (l.most - l.counter) l.counter (map view l.items.items) (source_of l.self)
    ≡ items_at (item_takes (data_at l.levels)) l.most 0 [] (source_of l.fn.self)

-- the entries from here on are those from the start on
abbrev pub invariant-entries_within-loop : goal.invariant-entries_within-loop
invariant-entries_within-loop l =
    entries_at (entry_takes (data_at l.levels)) (l.most - l.counter) (map (seen_entry view) l.entries.entries) (source_of l.self)
    ≡ entries_at (entry_takes (data_at l.levels)) l.most [] (source_of l.fn.self)
