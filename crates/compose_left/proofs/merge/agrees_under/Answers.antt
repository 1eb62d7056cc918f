use Rattle.std.proofs.Common.{rules, ◌≡◌, Some, None, ap, sym, ◌∙◌}
use Rattle.std.specs.BTreeMap.{get}
use Rattle.comp_entity.specs.Views.{entity_tree, named_entities}
use Rattle.compose_left.specs.Merging.{equal_or_absent}
use Rattle.compose_left.specs.Merged.{name_cmp}
use Rattle.compose_left.proofs.MergeLaws.{place_below, under_place, under_none}
use Rattle.compose_left.proofs.merge.agrees_under.Goals as goal

pub export_at-export-requires : goal.export_at-export-requires
export_at-export-requires c =
    let at : get name_cmp c.args.names.now c.args.name.now ≡ Some c.in-Some.place.now = search rules in
    place_below c.args.name.now c.args.exports.now c.in-Some.place.now (sym (c.requires c.args.name.now) ∙ at)

pub returns-in-Some : goal.returns-in-Some
returns-in-Some c =
    let at : get name_cmp c.args.names.now c.args.name.now ≡ Some c.in-Some.place.now = search rules in
    c.equal.ensures ∙ ap (equal_or_absent (entity_tree c.args.asked.now)) (sym (under_place c.args.name.now c.args.exports.now c.in-Some.place.now c.export_at-export.result.now (sym (c.requires c.args.name.now) ∙ at) c.export_at-export.ensures))

pub returns-in-None : goal.returns-in-None
returns-in-None c =
    let at : get name_cmp c.args.names.now c.args.name.now ≡ None = search rules in
    ap (equal_or_absent (entity_tree c.args.asked.now)) (sym (under_none c.args.name.now (named_entities c.args.exports.now) (sym (c.requires c.args.name.now) ∙ at)))
