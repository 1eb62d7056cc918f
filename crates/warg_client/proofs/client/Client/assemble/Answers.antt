use Rattle.std.proofs.Common.{inl, inr, refl, sym, ap, subst}
use Rattle.std.proofs.lemmas.Result.{err_from_is_err_and}
use Rattle.compose_config.specs.Plan.{Settings as PlanSettings}
use Rattle.compose_config.specs.View.{settings_of as plan_settings}
use Rattle.warg_plan.specs.View.{plan_view}
use Rattle.warg_assemble.specs.Parts.{learnt}
use Rattle.warg_learn.specs.Stored.{IsOwnStore}
use Rattle.warg_learn.specs.Search.{Finds}
use Rattle.warg_learn.specs.Learnt.{IsLearnt}
use Rattle.warg_learn.specs.Seen.{tells}
use Rattle.warg_compose.specs.Open.{IsAllowed}
use Rattle.warg_compose.specs.Read.{IsComponent}
use Rattle.warg_client.specs.Assembled.{IsSearchRefused, wanted}
use Rattle.warg_client.specs.Shown.{seen_by}
use Rattle.warg_client.proofs.AssembleLaws.{compose_short, found_own, is_plan_of_text, search_own, search_short}
use Rattle.warg_client.proofs.FoundLaws.{found_wired}
use Rattle.warg_client.proofs.client.Client.assemble.Goals as goal

-- the text is refused
pub returns-in_err-config-clause-cause : goal.returns-in_err-config-clause-cause
returns-in_err-config-clause-cause g c =
    let tell = tells g.V.Verifier.good g.L.Link.told g.L.Link.faults g.R.RegistryStorage.told g.R.RegistryStorage.faults g.C.ContentStorage.told g.C.ContentStorage.faults g.N.NamespaceMapStorage.told g.N.NamespaceMapStorage.faults in
    let q = err_from_is_err_and c.from_residual.result c.from_residual.ensures.1 in
    rw (q.1, q.2) (inl (record { fault = c.in_err-config.ensures.fault; unchanged = c.begin.ensures.begins tell }))

pub returns-in_err-config-clause-own : goal.returns-in_err-config-clause-own
returns-in_err-config-clause-own g c = λ known knows.
    let tell = tells g.V.Verifier.good g.L.Link.told g.L.Link.faults g.R.RegistryStorage.told g.R.RegistryStorage.faults g.C.ContentStorage.told g.C.ContentStorage.faults g.N.NamespaceMapStorage.told g.N.NamespaceMapStorage.faults in
    subst (λ told. IsOwnStore (g.V.Verifier.good c.args.self.now.learner.verifier) told) (sym (ap (λ s. s.registries) (c.begin.ensures.begins tell))) knows.stores.own

pub returns-in_err-config-clause-complete : goal.returns-in_err-config-clause-complete
returns-in_err-config-clause-complete g c =
    let q = err_from_is_err_and c.from_residual.result c.from_residual.ensures.1 in
    rw (q.1, q.2) (λ valid. inl (c.in_err-config.ensures.short valid.settings valid.reads))

-- the plan is not found
pub returns-in_err-plan-clause-cause : goal.returns-in_err-plan-clause-cause
returns-in_err-plan-clause-cause g c =
    let tell = tells g.V.Verifier.good g.L.Link.told g.L.Link.faults g.R.RegistryStorage.told g.R.RegistryStorage.faults g.C.ContentStorage.told g.C.ContentStorage.faults g.N.NamespaceMapStorage.told g.N.NamespaceMapStorage.faults in
    let s = plan_settings c.in_ok-config.config in
    let new = seen_by tell c.find_plan.new.self in
    let q = err_from_is_err_and c.from_residual-in_err-plan.result c.from_residual-in_err-plan.ensures.1 in
    rw (q.1, q.2) (inr (s, c.in_ok-config.ensures.read, inl (subst (λ old. IsSearchRefused g.L.Link.Steps old new g.D.Decide.said c.in_err-plan.field-0.0 s) (c.begin.ensures.begins tell) c.in_err-plan.ensures.refused)))

pub returns-in_err-plan-clause-own : goal.returns-in_err-plan-clause-own
returns-in_err-plan-clause-own g c = λ known knows.
    let tell = tells g.V.Verifier.good g.L.Link.told g.L.Link.faults g.R.RegistryStorage.told g.R.RegistryStorage.faults g.C.ContentStorage.told g.C.ContentStorage.faults g.N.NamespaceMapStorage.told g.N.NamespaceMapStorage.faults in
    let s = plan_settings c.in_ok-config.config in
    let new = seen_by tell c.find_plan.new.self in
    search_own g.L.Link.Steps g.D.Decide.said s _ new c.in_err-plan.field-0.0 known knows
    (subst (λ old. IsSearchRefused g.L.Link.Steps old new g.D.Decide.said c.in_err-plan.field-0.0 s) (c.begin.ensures.begins tell) c.in_err-plan.ensures.refused)

pub returns-in_err-plan-clause-complete : goal.returns-in_err-plan-clause-complete
returns-in_err-plan-clause-complete g c =
    let tell = tells g.V.Verifier.good g.L.Link.told g.L.Link.faults g.R.RegistryStorage.told g.R.RegistryStorage.faults g.C.ContentStorage.told g.C.ContentStorage.faults g.N.NamespaceMapStorage.told g.N.NamespaceMapStorage.faults in
    let s = plan_settings c.in_ok-config.config in
    let new = seen_by tell c.find_plan.new.self in
    let q = err_from_is_err_and c.from_residual-in_err-plan.result c.from_residual-in_err-plan.ensures.1 in
    rw (q.1, q.2) (λ valid. search_short g.L.Link.Steps _ new c.args.text.now s c.proving_sessions_are_found.ensures.undisturbed g.D.Decide.said c.in_err-plan.field-0.0
    (subst (λ old. IsSearchRefused g.L.Link.Steps old new g.D.Decide.said c.in_err-plan.field-0.0 s) (c.begin.ensures.begins tell) c.in_err-plan.ensures.refused) valid (c.in_ok-config.ensures.one valid.settings valid.reads))

-- what the search finds is wired
pub compose_plan-requires : goal.compose_plan-requires
compose_plan-requires g c =
    let tell = tells g.V.Verifier.good g.L.Link.told g.L.Link.faults g.R.RegistryStorage.told g.R.RegistryStorage.faults g.C.ContentStorage.told g.C.ContentStorage.faults g.N.NamespaceMapStorage.told g.N.NamespaceMapStorage.faults in
    found_wired g.L.Link.Steps (plan_settings c.in_ok-config.config) c.plans_over_components_are_wired.ensures (seen_by tell c.begin.new.self) (seen_by tell c.find_plan.new.self) (plan_view c.in_ok-plan.plan) c.in_ok-plan.ensures.finds

-- the plan is not linked
pub returns-in_err-linked-clause-cause : goal.returns-in_err-linked-clause-cause
returns-in_err-linked-clause-cause g c =
    let tell = tells g.V.Verifier.good g.L.Link.told g.L.Link.faults g.R.RegistryStorage.told g.R.RegistryStorage.faults g.C.ContentStorage.told g.C.ContentStorage.faults g.N.NamespaceMapStorage.told g.N.NamespaceMapStorage.faults in
    let s = plan_settings c.in_ok-config.config in
    let new = seen_by tell c.find_plan.new.self in
    let es = plan_view c.in_ok-plan.plan in
    let q = err_from_is_err_and c.from_residual-in_err-linked.result c.from_residual-in_err-linked.ensures.1 in
    rw (q.1, q.2) (inr (
      s,
      c.in_ok-config.ensures.read,
      inr (record {
        entries = es;
        finds = subst (λ old. Finds learnt (wanted s) (IsLearnt g.L.Link.Steps IsComponent) old new es) (c.begin.ensures.begins tell) c.in_ok-plan.ensures.finds;
        refusal = c.in_err-linked.field-0.0;
        told = refl;
        cause = c.in_err-linked.ensures.fault;
      }),
    ))

pub returns-in_err-linked-clause-own : goal.returns-in_err-linked-clause-own
returns-in_err-linked-clause-own g c = λ known knows.
    let tell = tells g.V.Verifier.good g.L.Link.told g.L.Link.faults g.R.RegistryStorage.told g.R.RegistryStorage.faults g.C.ContentStorage.told g.C.ContentStorage.faults g.N.NamespaceMapStorage.told g.N.NamespaceMapStorage.faults in
    let s = plan_settings c.in_ok-config.config in
    let new = seen_by tell c.find_plan.new.self in
    let es = plan_view c.in_ok-plan.plan in
    found_own g.L.Link.Steps s _ new es known knows (subst (λ old. Finds learnt (wanted s) (IsLearnt g.L.Link.Steps IsComponent) old new es) (c.begin.ensures.begins tell) c.in_ok-plan.ensures.finds)

pub returns-in_err-linked-clause-complete : goal.returns-in_err-linked-clause-complete
returns-in_err-linked-clause-complete g c =
    let tell = tells g.V.Verifier.good g.L.Link.told g.L.Link.faults g.R.RegistryStorage.told g.R.RegistryStorage.faults g.C.ContentStorage.told g.C.ContentStorage.faults g.N.NamespaceMapStorage.told g.N.NamespaceMapStorage.faults in
    let s = plan_settings c.in_ok-config.config in
    let new = seen_by tell c.find_plan.new.self in
    let es = plan_view c.in_ok-plan.plan in
    let q = err_from_is_err_and c.from_residual-in_err-linked.result c.from_residual-in_err-linked.ensures.1 in
    let finds = subst (λ old. Finds learnt (wanted s) (IsLearnt g.L.Link.Steps IsComponent) old new es) (c.begin.ensures.begins tell) c.in_ok-plan.ensures.finds in
    rw (q.1, q.2) (λ valid. inl (compose_short g.L.Link.Steps _ new c.args.text.now s c.proving_sessions_are_found.ensures.found c.linkable_plans_are_linked.ensures es c.in_err-linked.field-0.0
    (found_wired g.L.Link.Steps s c.plans_over_components_are_wired.ensures _ new es finds) finds c.in_err-linked.ensures.fault valid (c.in_ok-config.ensures.one valid.settings valid.reads)))

-- the plan is found and linked
pub returns-clause-planned : goal.returns-clause-planned
returns-clause-planned g c =
    let tell = tells g.V.Verifier.good g.L.Link.told g.L.Link.faults g.R.RegistryStorage.told g.R.RegistryStorage.faults g.C.ContentStorage.told g.C.ContentStorage.faults g.N.NamespaceMapStorage.told g.N.NamespaceMapStorage.faults in
    let s = plan_settings c.in_ok-config.config in
    let new = seen_by tell c.find_plan.new.self in
    let es = plan_view c.in_ok-plan.plan in (
      c.in_ok-plan.plan,
      refl,
      is_plan_of_text g.L.Link.Steps s _ new c.args.text.now es c.in_ok-config.ensures.read
          (subst (λ old. Finds learnt (wanted s) (IsLearnt g.L.Link.Steps IsComponent) old new es) (c.begin.ensures.begins tell) c.in_ok-plan.ensures.finds),
    )

pub returns-clause-own : goal.returns-clause-own
returns-clause-own g c = λ known knows.
    let tell = tells g.V.Verifier.good g.L.Link.told g.L.Link.faults g.R.RegistryStorage.told g.R.RegistryStorage.faults g.C.ContentStorage.told g.C.ContentStorage.faults g.N.NamespaceMapStorage.told g.N.NamespaceMapStorage.faults in
    let s = plan_settings c.in_ok-config.config in
    let new = seen_by tell c.find_plan.new.self in
    let es = plan_view c.in_ok-plan.plan in
    found_own g.L.Link.Steps s _ new es known knows (subst (λ old. Finds learnt (wanted s) (IsLearnt g.L.Link.Steps IsComponent) old new es) (c.begin.ensures.begins tell) c.in_ok-plan.ensures.finds)

pub returns-clause-linked : goal.returns-clause-linked
returns-clause-linked g c = (record { plan = c.in_ok-plan.plan; lock = c.in_ok-linked.linked.lock }, refl, c.in_ok-linked.ensures.linked)

pub returns-clause-allowed : goal.returns-clause-allowed
returns-clause-allowed g c = (c.in_ok-plan.plan, refl, λ settings reads. subst (λ (t : PlanSettings). IsAllowed t.disallow_imports (plan_view c.in_ok-plan.plan)) (c.in_ok-config.ensures.one settings reads) c.in_ok-linked.ensures.allowed)
