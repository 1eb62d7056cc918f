use Rattle.std.proofs.Common.{◌+◌, ◌*◌, length, map}
use Rattle.comp_format.specs.Items.{item_tree}
use Rattle.comp_format.specs.Sections.{content_at}
use Rattle.comp_reader.proofs.ItemLaws.{IsUnderWay}
use Rattle.comp_reader.proofs.items.+reading_items.Given as goal

abbrev pub decreases-items_of : goal.decreases-items_of
decreases-items_of l = 4 * l.scopes + 1

abbrev pub decreases-sections_of : goal.decreases-sections_of
decreases-sections_of l = 4 * l.scopes + 3

abbrev pub decreases-any_section : goal.decreases-any_section
decreases-any_section l = 4 * l.scopes + 2

abbrev pub invariant-sections_of-loop-rest : goal.invariant-sections_of-loop-rest
invariant-sections_of-loop-rest l = IsUnderWay (content_at l.scopes) l.bytes (map item_tree l.items.items) l.rest

abbrev pub decreases-sections_of-loop-rest : goal.decreases-sections_of-loop-rest
decreases-sections_of-loop-rest l = length l.rest
