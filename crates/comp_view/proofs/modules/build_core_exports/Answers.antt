use Rattle.std.proofs.Common.{rules, ◌<◌, ◌∙◌, ap, sym, length, map}
use Rattle.comp_table.specs.Plain.{plain_export}
use Rattle.comp_table.specs.Trees.{below_root, root, tree, tree_at, trees_of}
use Rattle.comp_table.specs.declared.head.Head.TheVariants as head
use Rattle.comp_view.specs.Kinds as kind
use Rattle.comp_view.proofs.PartLaws.{built_end, held_together, number_at, opened, whole}
use Rattle.comp_view.proofs.modules.build_core_exports.Goals as goal

pub build_core_export-requires : goal.build_core_export-requires
build_core_export-requires c =
    let t = tree_at c.args.table.now c.args.number in
    let lt : c.loop-part.part-index < length c.all_parts-part-items.result.now = search rules in
    let below = held_together kind.CoreExport (root t) (below_root t) (opened kind.CoreExports t c.requires.is_one) in
    number_at c.args.table.now kind.CoreExport c.all_parts-part-items.result.now c.loop-part.part-index 0 (c.all_parts-part-items.ensures.kind kind.CoreExport below.1) lt

pub returns : goal.returns
returns c =
    let t = tree_at c.args.table.now c.args.number in
    let below = held_together kind.CoreExport (root t) (below_root t) (opened kind.CoreExports t c.requires.is_one) in
    sym (ap (λ xs. tree head.Entries (trees_of (map plain_export xs))) c.from_vec.ensures
    ∙ ap (λ xs. tree head.Entries (trees_of xs)) (built_end plain_export (tree_at c.args.table.now) c.all_parts-part-items.result.now c.loop-part.exports.items (search (rules, c.loop-part.invariant)))
    ∙ whole t head.Entries (trees_of (map (tree_at c.args.table.now) c.all_parts-part-items.result.now)) below.0 c.all_parts-part-items.ensures.parts)
