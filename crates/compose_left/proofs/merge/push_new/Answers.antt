use Rattle.std.proofs.Common.{rules, sym, ap, ◌∙◌}
use Rattle.std.specs.Prelude.{is_none}
use Rattle.std.specs.BTreeMap.{get}
use Rattle.comp_entity.specs.Views.{named_entities}
use Rattle.compose_left.specs.Merged.{name_cmp}
use Rattle.compose_left.proofs.MergeLaws.{added_more}
use Rattle.compose_left.proofs.merge.push_new.Goals as goal

pub loop-export-preserved : goal.loop-export-preserved
loop-export-preserved c =
    c.in_ok-push_if_new.ensures
    ∙ added_more (named_entities c.args.exports.now.items) (named_entities c.loop-export.exports.items) c.args.asked.now c.loop-export.export-index c.export-item.result (is_none (get name_cmp c.args.names.now c.export-item.result.0))
    (search rules) c.export-item.is (ap (λ o. is_none o) (sym (c.requires c.export-item.result.0))) c.loop-export.invariant
