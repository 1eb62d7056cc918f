use Rattle.std.proofs.Common.{subst}
use Rattle.std.specs.Prelude.{IfErr, IfOk}
use Rattle.warg_plan.specs.View.{plan_view}
use Rattle.warg_learn.specs.Recalled.{IsRecalledOrLearnt, taught}
use Rattle.warg_learn.specs.Search.{Finds}
use Rattle.warg_learn.specs.Seen.{tells}
use Rattle.warg_compose.specs.Read.{IsComponent}
use Rattle.warg_client.specs.Packages.{IsPackageSearchRefused, package_wanted}
use Rattle.warg_client.specs.Shown.{seen_by}
use Rattle.warg_client.proofs.FoundLaws.{answer_own, answer_planned, answer_wired}
use Rattle.warg_client.proofs.client.Client.plan_package.Goals as goal

pub returns-clause-planned : goal.returns-clause-planned
returns-clause-planned g c =
    let tell = tells g.V.Verifier.good g.L.Link.told g.L.Link.faults g.R.RegistryStorage.told g.R.RegistryStorage.faults g.C.ContentStorage.told g.C.ContentStorage.faults g.N.NamespaceMapStorage.told g.N.NamespaceMapStorage.faults in
    let new = seen_by tell c.find_package_plan.new.self in
    let finds = subst (λ old. IfOk c.find_package_plan.result (λ plan. Finds taught (package_wanted c.args.name.now) (IsRecalledOrLearnt g.L.Link.Steps IsComponent) old new (plan_view plan))) (c.restart.ensures.begins tell) c.find_package_plan.ensures.finds in
    answer_planned g.L.Link.Steps c.args.name.now _ new c.find_package_plan.result finds

pub returns-clause-wired : goal.returns-clause-wired
returns-clause-wired g c =
    let tell = tells g.V.Verifier.good g.L.Link.told g.L.Link.faults g.R.RegistryStorage.told g.R.RegistryStorage.faults g.C.ContentStorage.told g.C.ContentStorage.faults g.N.NamespaceMapStorage.told g.N.NamespaceMapStorage.faults in
    let new = seen_by tell c.find_package_plan.new.self in
    answer_wired g.L.Link.Steps c.args.name.now c.plans_over_components_are_wired.ensures (seen_by tell c.restart.new.self) new c.find_package_plan.result c.find_package_plan.ensures.finds

pub returns-clause-refused : goal.returns-clause-refused
returns-clause-refused g c =
    let tell = tells g.V.Verifier.good g.L.Link.told g.L.Link.faults g.R.RegistryStorage.told g.R.RegistryStorage.faults g.C.ContentStorage.told g.C.ContentStorage.faults g.N.NamespaceMapStorage.told g.N.NamespaceMapStorage.faults in
    let new = seen_by tell c.find_package_plan.new.self in
    subst (λ old. IfErr c.find_package_plan.result (IsPackageSearchRefused g.L.Link.Steps old new g.D.Decide.said c.args.name.now)) (c.restart.ensures.begins tell) c.find_package_plan.ensures.refused

pub returns-clause-own : goal.returns-clause-own
returns-clause-own g c = λ known knows.
    let tell = tells g.V.Verifier.good g.L.Link.told g.L.Link.faults g.R.RegistryStorage.told g.R.RegistryStorage.faults g.C.ContentStorage.told g.C.ContentStorage.faults g.N.NamespaceMapStorage.told g.N.NamespaceMapStorage.faults in
    let new = seen_by tell c.find_package_plan.new.self in
    let finds = subst (λ old. IfOk c.find_package_plan.result (λ plan. Finds taught (package_wanted c.args.name.now) (IsRecalledOrLearnt g.L.Link.Steps IsComponent) old new (plan_view plan))) (c.restart.ensures.begins tell) c.find_package_plan.ensures.finds in
    let refused = subst (λ old. IfErr c.find_package_plan.result (IsPackageSearchRefused g.L.Link.Steps old new g.D.Decide.said c.args.name.now)) (c.restart.ensures.begins tell) c.find_package_plan.ensures.refused in
    answer_own g.L.Link.Steps c.args.name.now g.D.Decide.said _ new c.find_package_plan.result finds refused known knows
