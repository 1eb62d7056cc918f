use Rattle.std.proofs.Common.{◌∙◌, ◌-◌, ap, length, List, map, refl, subst, sym, take}
use Rattle.std.specs.Prelude.{fold}
use Rattle.std.proofs.lemmas.Result.{err_from_is_err_and}
use Rattle.comp_shape.specs.Refusal.{IsRefused}
use Rattle.warg_plan.specs.View.{entry_view, plan_view}
use Rattle.warg_plan.specs.Walk.{Entry, nothing_known}
use Rattle.warg_plan.specs.declared.plan.PlanEntry.{PlanEntry}
use Rattle.warg_learn.specs.Recalled.{IsRecalledOrLearnt, taught}
use Rattle.warg_learn.specs.RecalledLaws.{lessons_own, search_own}
use Rattle.warg_learn.specs.Search.{Finds}
use Rattle.warg_learn.specs.SearchError.TheVariants as search
use Rattle.warg_learn.specs.Seen.{tells}
use Rattle.warg_compose.specs.Read.{IsComponent}
use Rattle.warg_client.specs.LockList.{imports_among, listed_in, with_import}
use Rattle.warg_client.specs.Packages.{IsPackageSearchRefused, package_wanted}
use Rattle.warg_client.specs.Shown.{seen_by}
use Rattle.warg_client.proofs.FoundLaws.{package_planned}
use Rattle.warg_client.proofs.LockListLaws.{before_last}
use Rattle.warg_client.proofs.lock_list.LockListBuilder.build_list.Goals as goal

-- the plan is not found
pub returns-in_err-plan-clause-cause : goal.returns-in_err-plan-clause-cause
returns-in_err-plan-clause-cause g c =
    let tell = tells g.V.Verifier.good g.L.Link.told g.L.Link.faults g.R.RegistryStorage.told g.R.RegistryStorage.faults g.C.ContentStorage.told g.C.ContentStorage.faults g.N.NamespaceMapStorage.told g.N.NamespaceMapStorage.faults in
    let new = seen_by tell c.find_package_plan.new.self in
    let q = err_from_is_err_and c.from_residual.result c.from_residual.ensures.1 in
    rw (q.1, q.2) (subst (λ old. IsPackageSearchRefused g.L.Link.Steps old new g.D.Decide.said c.args.info.now.name c.in_err-plan.field-0.0) (c.restart.ensures.begins tell) c.in_err-plan.ensures.refused)

-- there is no memory for the list
pub returns-in_err-add_all-clause-cause : goal.returns-in_err-add_all-clause-cause
returns-in_err-add_all-clause-cause g c =
    let tell = tells g.V.Verifier.good g.L.Link.told g.L.Link.faults g.R.RegistryStorage.told g.R.RegistryStorage.faults g.C.ContentStorage.told g.C.ContentStorage.faults g.N.NamespaceMapStorage.told g.N.NamespaceMapStorage.faults in
    let new = seen_by tell c.find_package_plan.new.self in
    let es = plan_view c.in_ok-plan.plan in
    let finds = subst (λ old. Finds taught (package_wanted c.args.info.now.name) (IsRecalledOrLearnt g.L.Link.Steps IsComponent) old new es) (c.restart.ensures.begins tell) c.in_ok-plan.ensures.finds in
    let q = err_from_is_err_and c.from_residual-in_err-add_all.result c.from_residual-in_err-add_all.ensures.1 in
    rw (q.1, q.2) (record { refusal = search.Memory; told = refl; cause = record { parts = finds.parts; are = finds.are } })

-- the imports are listed
pub returns-clause-listed : goal.returns-clause-listed
returns-clause-listed g c =
    let tell = tells g.V.Verifier.good g.L.Link.told g.L.Link.faults g.R.RegistryStorage.told g.R.RegistryStorage.faults g.C.ContentStorage.told g.C.ContentStorage.faults g.N.NamespaceMapStorage.told g.N.NamespaceMapStorage.faults in
    let new = seen_by tell c.find_package_plan.new.self in
    let es = plan_view c.in_ok-plan.plan in
    let finds = subst (λ old. Finds taught (package_wanted c.args.info.now.name) (IsRecalledOrLearnt g.L.Link.Steps IsComponent) old new es) (c.restart.ensures.begins tell) c.in_ok-plan.ensures.finds in
    let n = c.saturating_sub-count.result in
    let entries = c.in_ok-plan.plan.entries.items in
    let listed = listed_in c.args.self.now in (
      es,
      package_planned g.L.Link.Steps c.args.info.now.name _ new es finds,
      c.in_ok-add_all.ensures.added
          ∙ ap (λ (xs : List PlanEntry). fold with_import listed (imports_among (map entry_view (take n xs)))) c.deref.ensures.value
          ∙ ap (λ (xs : List Entry). fold with_import listed (imports_among xs)) (before_last entries n (c.saturating_sub-count.ensures ∙ ap (λ k. k - 1) (c.len.ensures ∙ sym (ap (λ (xs : List PlanEntry). length xs) (sym c.deref.ensures.value) ∙ c.deref.ensures.len)))),
    )

-- a refusal adds nothing
pub returns-in_err-plan-clause-same_list : goal.returns-in_err-plan-clause-same_list
returns-in_err-plan-clause-same_list g c =
    let q = err_from_is_err_and c.from_residual.result c.from_residual.ensures.1 in
    rw (q.1, q.2) (λ other. refl)

pub returns-in_err-add_all-clause-same_list : goal.returns-in_err-add_all-clause-same_list
returns-in_err-add_all-clause-same_list g c =
    let q = err_from_is_err_and c.from_residual-in_err-add_all.result c.from_residual-in_err-add_all.ensures.1 in
    rw (q.1, q.2) (λ other. absurd (other refl))

-- the store of registries stays the client's own
pub returns-in_err-plan-clause-own : goal.returns-in_err-plan-clause-own
returns-in_err-plan-clause-own g c = λ known knows.
    let tell = tells g.V.Verifier.good g.L.Link.told g.L.Link.faults g.R.RegistryStorage.told g.R.RegistryStorage.faults g.C.ContentStorage.told g.C.ContentStorage.faults g.N.NamespaceMapStorage.told g.N.NamespaceMapStorage.faults in
    let new = seen_by tell c.find_package_plan.new.self in
    let refused = subst (λ old. IsPackageSearchRefused g.L.Link.Steps old new g.D.Decide.said c.args.info.now.name c.in_err-plan.field-0.0) (c.restart.ensures.begins tell) c.in_err-plan.ensures.refused in
    search_own g.L.Link.Steps IsComponent g.D.Decide.said (λ bytes error. IsRefused error bytes) (package_wanted c.args.info.now.name) _ new refused.refusal known knows refused.cause

pub returns-in_err-add_all-clause-own : goal.returns-in_err-add_all-clause-own
returns-in_err-add_all-clause-own g c = λ known knows.
    let tell = tells g.V.Verifier.good g.L.Link.told g.L.Link.faults g.R.RegistryStorage.told g.R.RegistryStorage.faults g.C.ContentStorage.told g.C.ContentStorage.faults g.N.NamespaceMapStorage.told g.N.NamespaceMapStorage.faults in
    let new = seen_by tell c.find_package_plan.new.self in
    let es = plan_view c.in_ok-plan.plan in
    let finds = subst (λ old. Finds taught (package_wanted c.args.info.now.name) (IsRecalledOrLearnt g.L.Link.Steps IsComponent) old new es) (c.restart.ensures.begins tell) c.in_ok-plan.ensures.finds in
    lessons_own g.L.Link.Steps IsComponent (package_wanted c.args.info.now.name) nothing_known _ new finds.parts known knows finds.are

pub returns-clause-own : goal.returns-clause-own
returns-clause-own g c = λ known knows.
    let tell = tells g.V.Verifier.good g.L.Link.told g.L.Link.faults g.R.RegistryStorage.told g.R.RegistryStorage.faults g.C.ContentStorage.told g.C.ContentStorage.faults g.N.NamespaceMapStorage.told g.N.NamespaceMapStorage.faults in
    let new = seen_by tell c.find_package_plan.new.self in
    let es = plan_view c.in_ok-plan.plan in
    let finds = subst (λ old. Finds taught (package_wanted c.args.info.now.name) (IsRecalledOrLearnt g.L.Link.Steps IsComponent) old new es) (c.restart.ensures.begins tell) c.in_ok-plan.ensures.finds in
    lessons_own g.L.Link.Steps IsComponent (package_wanted c.args.info.now.name) nothing_known _ new finds.parts known knows finds.are
