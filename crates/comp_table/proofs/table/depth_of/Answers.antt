use Rattle.std.proofs.Common.{rules, ◌<◌, max, ◌∙◌, ap, sym, length, slice_index_or}
use Rattle.comp_table.specs.declared.table.Node.{Node}
use Rattle.comp_table.specs.Table.{trees}
use Rattle.comp_table.proofs.TableLaws.{below_at, measured_found}
use Rattle.comp_table.proofs.DepthLaws.{depth_step}
use Rattle.comp_table.proofs.table.depth_of.Goals as goal

pub loop-part-preserved : goal.loop-part-preserved
loop-part-preserved c =
    let lt : c.loop-part.part-index < length c.args.parts.now = search rules in
    let there = below_at (length c.args.nodes.now) c.args.parts.now c.loop-part.part-index 0 c.requires.below lt in
    let depth = measured_found c.args.nodes.now (slice_index_or c.args.parts.now c.loop-part.part-index 0) c.index-nodes-part.result _ c.requires.measured there c.index-nodes-part.is in
    depth_step (trees c.args.nodes.now) c.args.parts.now c.loop-part.part-index c.loop-part.depth c.index-nodes-part.result.depth c.greater-depth.result lt c.loop-part.invariant depth.depth_is
    (c.greater-depth.ensures ∙ ap (λ (n : Node). max c.loop-part.depth n.depth) (sym c.index-nodes-part.is))
