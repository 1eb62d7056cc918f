use Rattle.std.proofs.Common.{rules, ◌<◌, length, slice_index_or, subst}
use Rattle.comp_table.specs.Changes.{bare_tree}
use Rattle.comp_table.specs.declared.table.Node.{Node}
use Rattle.comp_table.specs.Table.{trees, IsBare}
use Rattle.comp_table.specs.Trees.{tree_at}
use Rattle.comp_table.proofs.TableLaws.{below_at, bare_found}
use Rattle.comp_table.specs.StandLaws.{grows_not, all_none, all_step}
use Rattle.comp_table.proofs.BareLaws.{bare_stands}
use Rattle.comp_table.proofs.table.bare_parts.Goals as goal

pub loop-part-init : goal.loop-part-init
loop-part-init c = rw c.new-numbers.ensures.items (all_none _)

pub loop-part-preserved : goal.loop-part-preserved
loop-part-preserved c =
    let lt : c.loop-part.part-index < length c.args.parts.now = search rules in
    let there = below_at (length c.args.nodes.now) c.args.parts.now c.loop-part.part-index 0 c.requires.below lt in
    let bare = bare_found c.args.nodes.now (slice_index_or c.args.parts.now c.loop-part.part-index 0) c.index-nodes-part.result _ c.requires.bare there c.index-nodes-part.is in
    all_step (λ p. bare_tree (tree_at (trees c.args.nodes.now) p)) c.args.parts.now (trees c.args.nodes.now) (trees c.args.nodes.now) c.loop-part.part-index 0 c.loop-part.numbers.items c.push.new.self.items _ lt (grows_not _) c.loop-part.invariant
    (bare_stands c.args.nodes.now (slice_index_or c.args.parts.now c.loop-part.part-index 0) _ there (subst (λ (n : Node). IsBare (trees c.args.nodes.now) (slice_index_or c.args.parts.now c.loop-part.part-index 0) n.bare) c.index-nodes-part.is bare)) c.in_ok-push.ensures.items
