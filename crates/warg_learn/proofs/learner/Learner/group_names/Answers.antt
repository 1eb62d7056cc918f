use Rattle.std.proofs.Common.{refl, ap, ◌∙◌, map}
use Rattle.std.proofs.lemmas.Result.{err_from_is_err_and}
use Rattle.warg_fetch.specs.Stored.{registry_for}
use Rattle.warg_learn.specs.Gathered.{groups_in}
use Rattle.warg_learn.specs.Groups.{joined}
use Rattle.warg_learn.proofs.GroupLaws.{group_at}
use Rattle.warg_learn.proofs.GroupSteps.{asks_then, grouped_more, not_grouped_store, not_grouped_memory}
use Rattle.warg_learn.proofs.RecalledSteps.{asks_by, none_asked}
use Rattle.warg_learn.proofs.SeenLaws.{at_most}
use Rattle.warg_learn.proofs.learner.Learner.group_names.Goals as goal

pub loop-name-init : goal.loop-name-init
loop-name-init g c = record { asks = none_asked _; updated = refl; are = λ known k. ap (map group_at) c.new-groups.ensures.empty }

pub returns-in_err-registry-clause-refused : goal.returns-in_err-registry-clause-refused
returns-in_err-registry-clause-refused g c =
    let q = err_from_is_err_and c.from_residual.result c.from_residual.ensures.1 in
    let found = c.registry_for.ensures in
    rw (q.1, q.2) (not_grouped_store _ _ _ _ _ c.in_err-registry.field-0.0 c.loop-name.invariant
    (asks_by _ _ refl refl refl found.kept refl found.names_kept refl refl (at_most refl) found.registries_never_fall (at_most refl) found.names_never_fall)
    c.in_err-registry.ensures.fault)

pub returns-in_err-try_clone-clause-refused : goal.returns-in_err-try_clone-clause-refused
returns-in_err-try_clone-clause-refused g c =
    let q = err_from_is_err_and c.from_residual-in_err-try_clone.result c.from_residual-in_err-try_clone.ensures.1 in
    let found = c.registry_for.ensures in
    rw (q.1, q.2) (not_grouped_memory _ _ (asks_then _ _ _ c.loop-name.invariant.asks
    (asks_by _ _ refl refl refl found.kept refl found.names_kept refl refl (at_most refl) found.registries_never_fall (at_most refl) found.names_never_fall)))

pub returns-in_err-join_group-clause-refused : goal.returns-in_err-join_group-clause-refused
returns-in_err-join_group-clause-refused g c =
    let q = err_from_is_err_and c.from_residual-in_err-join_group.result c.from_residual-in_err-join_group.ensures.1 in
    let found = c.registry_for.ensures in
    rw (q.1, q.2) (not_grouped_memory _ _ (asks_then _ _ _ c.loop-name.invariant.asks
    (asks_by _ _ refl refl refl found.kept refl found.names_kept refl refl (at_most refl) found.registries_never_fall (at_most refl) found.names_never_fall)))

pub loop-name-preserved : goal.loop-name-preserved
loop-name-preserved g c =
    let found = c.registry_for.ensures in
    grouped_more _ _ _ c.args.names.now c.loop-name.name-index c.name-item.result c.in_ok-registry.registry _ _ c.loop-name-test.true c.name-item.is c.loop-name.invariant
    (asks_by _ _ refl refl refl found.kept refl found.names_kept refl refl (at_most refl) found.registries_never_fall (at_most refl) found.names_never_fall)
    refl
    (λ known k. c.in_ok-registry.ensures.found known k.stores.registries k.stores.namespaces ∙ ap (registry_for known) c.namespace.ensures.value)
    (c.in_ok-join_group.ensures.joined ∙ ap (λ n. joined c.in_ok-registry.registry n (groups_in c.loop-name.groups)) c.in_ok-try_clone.ensures)
