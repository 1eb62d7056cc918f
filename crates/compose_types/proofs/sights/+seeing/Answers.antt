use Rattle.std.proofs.Common.{rules, ◌≡◌, true, false, sym, ◌∙◌}
use Rattle.compose_types.specs.Sights.{sees}
use Rattle.compose_types.proofs.SightLaws.{sees_within, sees_behind, instance_seen, instance_type_seen, component_seen, entry_seen, entry_unseen}
use Rattle.compose_types.proofs.sights.+seeing.Goals as goal

pub entity_seen-returns-in-Instance : goal.entity_seen-returns-in-Instance
entity_seen-returns-in-Instance t c =
    c.entries_seen.ensures ∙ instance_seen (sees c.args.sight.now) c.args.entity.now c.in-Instance.instance c.deref.result.now c.in-Instance.is c.deref.ensures.value

pub type_seen-returns-in-Instance : goal.type_seen-returns-in-Instance
type_seen-returns-in-Instance t c =
    c.entries_seen.ensures
    ∙ instance_type_seen (sees c.args.sight.now) _ c.args.ty.now c.in-Instance.instance c.deref.result.now c.in-Instance.is c.deref.ensures.value (sees_within 1 _)

pub component_seen-returns : goal.component_seen-returns
component_seen-returns t c =
    let inside : c.entries_seen.result ≡ true = search rules in
    c.entries_seen-2.ensures
    ∙ component_seen (sees c.args.sight.now) _ _ c.args.component.now c.deref.result.now c.deref-3.result.now c.deref-2.result.now c.deref.ensures.value c.deref-2.ensures.value c.deref-3.ensures.value (sees_within 2 _) (sees_behind _ _)
    (sym c.entries_seen.ensures ∙ inside)

pub entries_seen-returns-then-not-entity_seen : goal.entries_seen-returns-then-not-entity_seen
entries_seen-returns-then-not-entity_seen t c =
    let unseen : c.entity_seen.result ≡ false = search rules in
    entry_unseen (sees c.args.sight.now) _ c.args.entries.now c.loop-place.place c.index-entries-place.result c.entity_seen.result (sees_behind _ _) c.loop-place-test.true c.index-entries-place.is c.entity_seen.ensures c.loop-place.invariant unseen

pub entries_seen-loop-place-preserved : goal.entries_seen-loop-place-preserved
entries_seen-loop-place-preserved t c =
    let seen : c.entity_seen.result ≡ true = search rules in
    entry_seen (sees c.args.sight.now) _ c.args.entries.now c.loop-place.place c.index-entries-place.result c.entity_seen.result (sees_behind _ _) c.loop-place-test.true c.index-entries-place.is c.entity_seen.ensures c.loop-place.invariant seen
