use Rattle.std.proofs.Common.{◌∙◌, [], List, map, subst, sym}
use Rattle.std.specs.Prelude.{All, IfErr}
use Rattle.std.proofs.lemmas.Result.{err_from_is_err_and}
use Rattle.comp_format.specs.Fits.{IsComponent}
use Rattle.compose_bundle.specs.Bundled.{IsBundled, content_in}
use Rattle.warg_plan.specs.View.{entry_view, plan_view}
use Rattle.warg_plan.specs.declared.plan.PlanEntry.{PlanEntry}
use Rattle.warg_compose.specs.Held.{AreReleases, HasComponent}
use Rattle.warg_compose.specs.Linked.{IsComposeFault, IsLockFault, IsPlanLocked, IsUnbundled}
use Rattle.warg_compose.specs.Open.{IsAllowed}
use Rattle.warg_compose.proofs.ContentLaws.{are_components, contents_are}
use Rattle.warg_compose.proofs.LockLaws.{each_component, lock_read, no_lock_fault, plan_linked, unbundled_fault}
use Rattle.warg_compose.proofs.link.compose_plan.Goals as goal

pub releases_of-requires : goal.releases_of-requires
releases_of-requires c = subst (All HasComponent) (sym c.deref-2.ensures.value) (each_component [] c.args.plan.now.entries.items c.requires.each)

pub returns-in_err-lock-clause-fault : goal.returns-in_err-lock-clause-fault
returns-in_err-lock-clause-fault c =
    let es = plan_view c.args.plan.now in
    let e = c.in_err-lock.field-0.0 in
    let allowed = subst (λ (xs : List PlanEntry). IsAllowed c.args.disallow_imports (map entry_view xs)) (c.deref.ensures.value ∙ sym c.deref-3.ensures.value) c.in_ok-check_open.ensures.allowed in
    let fault = subst (λ (xs : List PlanEntry). IsLockFault c.args.disallow_imports e (map entry_view xs)) c.deref-3.ensures.value (c.in_err-lock.ensures.fault c.args.disallow_imports allowed) in
    let q = err_from_is_err_and c.from_residual-in_err-lock.result c.from_residual-in_err-lock.ensures.1 in
    subst (λ r. IfErr r (λ d. IsComposeFault c.args.disallow_imports d es)) (sym q.1) (subst (λ d. IsComposeFault c.args.disallow_imports d es) (sym q.2) (no_lock_fault c.args.disallow_imports es e fault))

pub bundle-requires-clause-contents : goal.bundle-requires-clause-contents
bundle-requires-clause-contents c =
    let es = plan_view c.args.plan.now in
    let releases = c.in_ok-contents.field-0 in
    let are = subst (λ (xs : List PlanEntry). AreReleases releases (map entry_view xs)) c.deref-2.ensures.value c.in_ok-contents.ensures in
    let locked = subst (λ (xs : List PlanEntry). IsPlanLocked (map entry_view xs) c.in_ok-lock.lock.left.items c.in_ok-lock.lock.bytes.items) c.deref-3.ensures.value c.in_ok-lock.ensures.locked in
    are_components releases es locked.composition.components are locked.composed.components

pub bundle-requires-clause-lock : goal.bundle-requires-clause-lock
bundle-requires-clause-lock c = subst IsComponent (sym c.deref-5.ensures.value) (lock_read c.in_ok-lock.ensures.locked)

pub returns-in_err-bytes-clause-fault : goal.returns-in_err-bytes-clause-fault
returns-in_err-bytes-clause-fault c =
    let es = plan_view c.args.plan.now in
    let releases = c.in_ok-contents.field-0 in
    let are = subst (λ (xs : List PlanEntry). AreReleases releases (map entry_view xs)) c.deref-2.ensures.value c.in_ok-contents.ensures in
    let locked = subst (λ (xs : List PlanEntry). IsPlanLocked (map entry_view xs) c.in_ok-lock.lock.left.items c.in_ok-lock.lock.bytes.items) c.deref-3.ensures.value c.in_ok-lock.ensures.locked in
    let e = c.in_err-bytes.field-0.0 in
    let allowed = subst (λ (xs : List PlanEntry). IsAllowed c.args.disallow_imports (map entry_view xs)) c.deref.ensures.value c.in_ok-check_open.ensures.allowed in
    let unbundled = subst (λ bytes. IsUnbundled (content_in releases.contents) bytes e) c.deref-5.ensures.value c.in_err-bytes.ensures.fault in
    let fault = unbundled_fault c.args.disallow_imports es (content_in releases.contents) c.in_ok-lock.lock.left.items c.in_ok-lock.lock.bytes.items e allowed (contents_are releases es are) locked unbundled in
    let q = err_from_is_err_and c.from_residual-in_err-bytes.result c.from_residual-in_err-bytes.ensures.1 in
    subst (λ r. IfErr r (λ d. IsComposeFault c.args.disallow_imports d es)) (sym q.1) (subst (λ d. IsComposeFault c.args.disallow_imports d es) (sym q.2) fault)

pub returns-clause-linked : goal.returns-clause-linked
returns-clause-linked c =
    let es = plan_view c.args.plan.now in
    let releases = c.in_ok-contents.field-0 in
    let are = subst (λ (xs : List PlanEntry). AreReleases releases (map entry_view xs)) c.deref-2.ensures.value c.in_ok-contents.ensures in
    let locked = subst (λ (xs : List PlanEntry). IsPlanLocked (map entry_view xs) c.in_ok-lock.lock.left.items c.in_ok-lock.lock.bytes.items) c.deref-3.ensures.value c.in_ok-lock.ensures.locked in
    let bundled = subst (λ bytes. IsBundled (content_in releases.contents) bytes c.in_ok-bytes.bytes.items) c.deref-5.ensures.value c.in_ok-bytes.ensures.bundled in
    plan_linked c.one_shape.ensures c.what_is_written_imports_these.ensures c.bundles_are_whole.ensures es (content_in releases.contents) c.in_ok-lock.lock.left.items c.in_ok-lock.lock.bytes.items c.in_ok-bytes.bytes.items
    c.requires (contents_are releases es are) locked bundled
