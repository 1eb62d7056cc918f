use Rattle.std.proofs.Common.{◌+◌, ◌*◌, ◌≡◌, map, take}
use Rattle.comp_mention.specs.Mentions.{picked_in, trees_mentions}
use Rattle.comp_mention.specs.Walked.{AreVisited, with_numbers}
use Rattle.comp_table.specs.Trees.{tree_at, trees_of}
use Rattle.comp_mention.proofs.walk.+walking.Given as goal

abbrev pub decreases-visit : goal.decreases-visit
decreases-visit l = 4 * l.levels

abbrev pub decreases-visit_below : goal.decreases-visit_below
decreases-visit_below l = 4 * l.levels + 3

abbrev pub decreases-visit_func : goal.decreases-visit_func
decreases-visit_func l = 4 * l.levels + 2

abbrev pub decreases-visit_parts : goal.decreases-visit_parts
decreases-visit_parts l = 4 * l.levels + 1

abbrev pub invariant-visit_parts-loop-part : goal.invariant-visit_parts-loop-part
invariant-visit_parts-loop-part l = record {
  visited : AreVisited l.what l.out l.table l.walk;
  seen : l.walk.seen.keys ≡ with_numbers l.fn.walk.seen.keys (picked_in l.what l.out (trees_mentions l.depth (trees_of (map (tree_at l.table) (take l.part-index l.parts)))));
}
