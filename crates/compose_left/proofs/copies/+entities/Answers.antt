use Rattle.std.proofs.Common.{rules, ◌≡◌, ◌∙◌, ap, sym, map}
use Rattle.comp_entity.specs.Names.{entity_by, type_by}
use Rattle.comp_entity.specs.Views.{entity_tree, type_tree, named_entities}
use Rattle.compose_left.specs.Renaming.{change_of, entry_by}
use Rattle.compose_left.proofs.CopyLaws.{mark_kept, instance_in, instance_type_in, component_with, sum_is}
use Rattle.compose_left.proofs.copies.+entities.Goals as goal

pub entity_in-returns-in_ok-exports-in-Instance : goal.entity_in-returns-in_ok-exports-in-Instance
entity_in-returns-in_ok-exports-in-Instance t c =
    let exports : named_entities c.in_ok-exports-in-Instance.exports.items ≡ map (entry_by (change_of c.args.renaming.now) c.args.depth) (named_entities c.in-Instance.instance.exports.items) = search rules in
    instance_in (change_of c.args.renaming.now) (mark_kept c.args.renaming.now) c.args.depth c.in-Instance.instance (record { exports = c.in_ok-exports-in-Instance.exports }) exports
    ∙ ap (λ e. entity_by (change_of c.args.renaming.now) c.args.depth (entity_tree e)) (sym c.in-Instance.is)

pub type_in-returns-in_ok-exports-in-Instance : goal.type_in-returns-in_ok-exports-in-Instance
type_in-returns-in_ok-exports-in-Instance t c =
    let exports : named_entities c.in_ok-exports-in-Instance.exports.items ≡ map (entry_by (change_of c.args.renaming.now) c.in_ok-inner-in-Instance.inner) (named_entities c.in-Instance.instance.exports.items) = search rules in
    instance_type_in (change_of c.args.renaming.now) (mark_kept c.args.renaming.now) c.args.depth c.in_ok-inner-in-Instance.inner c.in-Instance.instance (record { exports = c.in_ok-exports-in-Instance.exports })
    (sum_is _ _ _ c.checked_add.result c.checked_add.ensures c.in_ok-inner-in-Instance.ensures.ok_part) exports
    ∙ ap (λ e. type_by (change_of c.args.renaming.now) c.args.depth (type_tree e)) (sym c.in-Instance.is)

pub component_in-returns : goal.component_in-returns
component_in-returns t c =
    let imports : named_entities c.in_ok-imports.imports.items ≡ map (entry_by (change_of c.args.renaming.now) c.in_ok-inner.inner) (named_entities c.args.component.now.imports.items) = search rules in
    let exports : named_entities c.in_ok-exports.exports.items ≡ map (entry_by (change_of c.args.renaming.now) c.in_ok-inner.inner) (named_entities c.args.component.now.exports.items) = search rules in
    component_with (change_of c.args.renaming.now) (mark_kept c.args.renaming.now) c.args.depth c.in_ok-inner.inner c.args.component.now (record { imports = c.in_ok-imports.imports; exports = c.in_ok-exports.exports })
    (sum_is _ _ _ c.checked_add.result c.checked_add.ensures c.in_ok-inner.ensures.ok_part) imports exports
