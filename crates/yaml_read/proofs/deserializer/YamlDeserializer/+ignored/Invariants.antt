use Rattle.std.proofs.Common.{◌≡◌, ◌+◌, ◌-◌, ◌*◌}
use Rattle.yaml_read.specs.Any.{item_passed, value_passed, ignored_at}
use Rattle.yaml_read.specs.Collections.{items_at, entries_at}
use Rattle.yaml_read.specs.Answers.{source_of}
use Rattle.yaml_read.proofs.deserializer.YamlDeserializer.+ignored.Given as goal

abbrev pub decreases-ignore_within : goal.decreases-ignore_within
decreases-ignore_within l = 4 * l.levels

abbrev pub decreases-ignore_part : goal.decreases-ignore_part
decreases-ignore_part l = 4 * l.levels + 1

abbrev pub decreases-ignore_items : goal.decreases-ignore_items
decreases-ignore_items l = 4 * l.levels + 2

abbrev pub decreases-ignore_entries : goal.decreases-ignore_entries
decreases-ignore_entries l = 4 * l.levels + 2

abbrev pub decreases-ignore_list : goal.decreases-ignore_list
decreases-ignore_list l = 4 * l.levels + 3

abbrev pub decreases-ignore_map : goal.decreases-ignore_map
decreases-ignore_map l = 4 * l.levels + 3

-- the items from here on are those from the start on
abbrev pub invariant-ignore_items-loop : goal.invariant-ignore_items-loop
invariant-ignore_items-loop l =
    items_at (item_passed (ignored_at l.levels)) (l.most - l.counter) l.counter tt (source_of l.self)
    ≡ items_at (item_passed (ignored_at l.levels)) l.most 0 tt (source_of l.fn.self)

-- the entries from here on are those from the start on
abbrev pub invariant-ignore_entries-loop : goal.invariant-ignore_entries-loop
invariant-ignore_entries-loop l =
    entries_at (value_passed (ignored_at l.levels)) (l.most - l.counter) tt (source_of l.self)
    ≡ entries_at (value_passed (ignored_at l.levels)) l.most tt (source_of l.fn.self)
