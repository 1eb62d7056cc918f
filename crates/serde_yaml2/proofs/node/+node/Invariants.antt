use Rattle.std.proofs.Common.{◌≡◌, ◌+◌, ◌-◌, ◌*◌, ◌≤◌}
use Rattle.serde_yaml2.specs.Nodes.{node_written}
use Rattle.serde_yaml2.specs.Output.{appended, output_of}
use Rattle.serde_yaml2.specs.ListLaws.{so_far, deep_so_far}
use Rattle.serde_yaml2.specs.MapLaws.{map_so_far, deep_map_so_far}
use Rattle.serde_yaml2.proofs.node.+node.Given as goal

-- the levels that are left
abbrev pub decreases-write_on_new_line : goal.decreases-write_on_new_line
decreases-write_on_new_line l = 8 * (64 - l.ser.now.level.depth) + 7

abbrev pub decreases-write_node : goal.decreases-write_node
decreases-write_node l = 8 * (64 - l.ser.now.level.depth) + 6

abbrev pub decreases-write_items : goal.decreases-write_items
decreases-write_items l = 8 * (64 - l.ser.now.level.depth) + 5

abbrev pub decreases-write_pairs : goal.decreases-write_pairs
decreases-write_pairs l = 8 * (64 - l.ser.now.level.depth) + 5

abbrev pub decreases-write_item : goal.decreases-write_item
decreases-write_item l = 8 * (64 - l.ser.now.level.depth) + 4

abbrev pub decreases-write_nested : goal.decreases-write_nested
decreases-write_nested l = 8 * (64 - l.ser.now.level.depth) + 3

abbrev pub decreases-write_below : goal.decreases-write_below
decreases-write_below l = 8 * (64 - l.ser.now.level.depth) + 2

-- the items up to the index were written
abbrev pub invariant-write_items-loop-item : goal.invariant-write_items-loop-item
invariant-write_items-loop-item l = record {
  done : output_of l.ser ≡ appended (output_of l.fn.ser) (so_far node_written l.items l.item-index (output_of l.fn.ser).level);
  fits : (output_of l.fn.ser).level + deep_so_far node_written l.items l.item-index ≤ 64;
}

-- the entries up to the index were written
abbrev pub invariant-write_pairs-loop-key : goal.invariant-write_pairs-loop-key
invariant-write_pairs-loop-key l = record {
  done : output_of l.ser ≡ appended (output_of l.fn.ser) (map_so_far node_written l.pairs l.key-index (output_of l.fn.ser).level);
  fits : (output_of l.fn.ser).level + deep_map_so_far node_written l.pairs l.key-index ≤ 64;
}
