use Rattle.std.proofs.Common.{rules, ◌<◌, ◌∙◌, ap, length, slice_index_or}
use Rattle.comp_table.specs.Rows.{label_plain}
use Rattle.comp_table.specs.Trees.{tree_at}
use Rattle.comp_table.specs.declared.head.Head.TheVariants as head
use Rattle.comp_view.specs.Kinds as kind
use Rattle.comp_view.proofs.PartLaws.{built_end, built_step, label_whole, number_at}
use Rattle.comp_view.proofs.values.build_labels.Goals as goal

pub loop-part-preserved : goal.loop-part-preserved
loop-part-preserved c =
    let lt : c.loop-part.part-index < length c.args.parts.now = search rules in
    let here = number_at c.args.table.now kind.LabelAlone c.args.parts.now c.loop-part.part-index 0 c.requires lt in
    built_step label_plain (tree_at c.args.table.now) c.args.parts.now c.loop-part.part-index 0 c.loop-part.labels.items c.push.new.self.items c.in_ok-label.label lt c.loop-part.invariant
    (label_whole (tree_at c.args.table.now (slice_index_or c.args.parts.now c.loop-part.part-index 0)) c.in_ok-label.label here.is_one (ap head.Label c.in_ok-label.ensures ∙ c.label_at.ensures)) c.in_ok-push.ensures.items

pub returns : goal.returns
returns c = built_end label_plain (tree_at c.args.table.now) c.args.parts.now c.loop-part.labels.items (search (rules, c.loop-part.invariant))
