use Rattle.std.proofs.Common.{◌+◌, ◌*◌, ◌≡◌, ℕ, map, take}
use Rattle.comp_table.specs.Changes.{tree_by}
use Rattle.comp_table.specs.Rows.{entry_plain}
use Rattle.comp_table.specs.Trees.{tree_at}
use Rattle.comp_view.specs.Kinds.{all_named}
use Rattle.comp_view.proofs.entities.+entities.Given as goal

abbrev pub decreases-build_component : goal.decreases-build_component
decreases-build_component l = 8 * l.levels

abbrev pub decreases-build_instance : goal.decreases-build_instance
decreases-build_instance l = 8 * l.levels

abbrev pub decreases-build_type : goal.decreases-build_type
decreases-build_type l = 8 * l.levels + 1

abbrev pub decreases-build_entity : goal.decreases-build_entity
decreases-build_entity l = 8 * l.levels + 2

abbrev pub decreases-build_entry : goal.decreases-build_entry
decreases-build_entry l = 8 * l.levels + 3

abbrev pub decreases-build_entries : goal.decreases-build_entries
decreases-build_entries l = 8 * l.levels + 4

abbrev pub decreases-build_side : goal.decreases-build_side
decreases-build_side l = 8 * l.levels + 5

abbrev pub invariant-build_entries-loop-part : goal.invariant-build_entries-loop-part
invariant-build_entries-loop-part l = (depth : ℕ) → map entry_plain l.entries.items ≡ map (λ part. tree_by all_named depth (tree_at l.table part)) (take l.part-index l.parts)
