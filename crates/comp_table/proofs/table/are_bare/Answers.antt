use Rattle.std.proofs.Common.{rules, ◌<◌, length, slice_index_or, subst}
use Rattle.std.proofs.lemmas.List.{take_more}
use Rattle.comp_table.specs.Changes.{bare_tree}
use Rattle.comp_table.specs.declared.table.Node.{Node}
use Rattle.comp_table.specs.Table.{trees, IsBare}
use Rattle.comp_table.specs.Trees.{Stands, tree_at}
use Rattle.comp_table.proofs.TableLaws.{below_at, bare_found}
use Rattle.comp_table.specs.StandLaws.{grows_not, all_step}
use Rattle.comp_table.proofs.BareLaws.{bare_stands}
use Rattle.comp_table.proofs.table.are_bare.Goals as goal

pub loop-part-preserved : goal.loop-part-preserved
loop-part-preserved c =
    let lt : c.loop-part.part-index < length c.args.parts.now = search rules in
    let there = below_at (length c.args.nodes.now) c.args.parts.now c.loop-part.part-index 0 c.requires.below lt in
    let bare = bare_found c.args.nodes.now (slice_index_or c.args.parts.now c.loop-part.part-index 0) c.index-nodes-part.result _ c.requires.bare there c.index-nodes-part.is in
    let stands = bare_stands c.args.nodes.now (slice_index_or c.args.parts.now c.loop-part.part-index 0) _ there (subst (λ (n : Node). IsBare (trees c.args.nodes.now) (slice_index_or c.args.parts.now c.loop-part.part-index 0) n.bare) c.index-nodes-part.is bare) in
    all_step (λ p. bare_tree (tree_at (trees c.args.nodes.now) p)) c.args.parts.now (trees c.args.nodes.now) (trees c.args.nodes.now) c.loop-part.part-index 0 _ _ (slice_index_or c.args.parts.now c.loop-part.part-index 0) lt (grows_not _) c.loop-part.invariant
    (subst (λ b. Stands (trees c.args.nodes.now) b (bare_tree (tree_at (trees c.args.nodes.now) (slice_index_or c.args.parts.now c.loop-part.part-index 0)))) c.if-nodes-part.false stands)
    (take_more c.args.parts.now c.loop-part.part-index 0 lt)
