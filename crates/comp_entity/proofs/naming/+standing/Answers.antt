use Rattle.std.proofs.Common.{sym, ◌∙◌, rules}
use Rattle.comp_entity.specs.Fits.{resource_for, stands}
use Rattle.comp_entity.specs.Comparing.{exports_stand}
use Rattle.comp_entity.specs.Views.{entity_tree}
use Rattle.comp_entity.proofs.ViewLaws.{instances_stand}
use Rattle.comp_entity.proofs.StepLaws.{stands_later, stands_first, none_is}
use Rattle.comp_entity.proofs.naming.+standing.Goals as goal

pub standing_for-returns-in-Instance-Instance : goal.standing_for-returns-in-Instance-Instance
standing_for-returns-in-Instance-Instance t c =
    c.export_standing_for.ensures ∙ (λ i. resource_for (exports_stand (c.deref-in-Instance-Instance.ensures.value i) (c.deref.ensures.value i)) c.args.name)
    ∙ sym (instances_stand c.in-Instance-Instance.given c.in-Instance-Instance.asked c.args.name)
    ∙ (λ i. resource_for (stands (entity_tree (sym c.in-Instance-Instance.is-1 i)) (entity_tree (sym c.in-Instance-Instance.is-0 i))) c.args.name)

pub export_standing_for-loop-export-preserved : goal.export_standing_for-loop-export-preserved
export_standing_for-loop-export-preserved t c =
    stands_later c.args.given.now c.args.asked.now c.loop-export.export-index c.export-item.result (search rules) c.export-item.is c.args.name _
    (sym c.standing_under-found.ensures ∙ none_is c.standing_under-found.result (sym c.if-is_some.false ∙ c.is_some.ensures)) c.loop-export.invariant

pub export_standing_for-returns-then-is_some : goal.export_standing_for-returns-then-is_some
export_standing_for-returns-then-is_some t c =
    stands_first c.args.given.now c.args.asked.now c.loop-export.export-index c.export-item.result (search rules) c.export-item.is c.args.name _ c.standing_under-found.result
    c.standing_under-found.ensures (sym c.if-is_some.true ∙ c.is_some.ensures) c.loop-export.invariant
