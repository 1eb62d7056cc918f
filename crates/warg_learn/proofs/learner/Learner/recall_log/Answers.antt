use Rattle.std.proofs.Common.{refl}
use Rattle.std.proofs.lemmas.Result.{err_from_is_err_and}
use Rattle.warg_info.specs.Info.{IsSoundPackage}
use Rattle.warg_fetch.specs.StoredLaws.{if_some}
use Rattle.warg_learn.specs.FetchError.TheVariants as fetch
use Rattle.warg_learn.proofs.SeenLaws.{at_most}
use Rattle.warg_learn.proofs.RecalledSteps.{asks_by, none_asked, recalled_by, unkept_by, unrecalled_by}
use Rattle.warg_learn.proofs.learner.Learner.recall_log.Goals as goal

pub returns-in_err-key-clause-refused : goal.returns-in_err-key-clause-refused
returns-in_err-key-clause-refused g c =
    let q = err_from_is_err_and c.from_residual.result c.from_residual.ensures.1 in
    rw (q.1, q.2) (unrecalled_by _ _ _ fetch.Memory (none_asked _) refl (λ known k. record {}))

pub returns-in_err-kept-clause-refused : goal.returns-in_err-kept-clause-refused
returns-in_err-kept-clause-refused g c =
    let kept = c.load_kept.ensures in
    let q = err_from_is_err_and c.from_residual-in_err-kept.result c.from_residual-in_err-kept.ensures.1 in
    rw (q.1, q.2) (unrecalled_by _ _ _ c.in_err-kept.field-0.0
    (asks_by _ _ refl refl refl kept.kept refl kept.names_kept refl refl (at_most refl) kept.registries_never_fall (at_most refl) kept.names_never_fall)
    refl (λ known k. c.in_err-kept.ensures.fault known k.stores.registries k.stores.namespaces))

pub returns-in_default-clause-unkept : goal.returns-in_default-clause-unkept
returns-in_default-clause-unkept g c = λ e.
    let kept = c.load_kept.ensures in
    unkept_by _ _ _ c.in_ok-kept.kept.info
    (asks_by _ _ refl refl refl kept.kept refl kept.names_kept refl refl (at_most refl) kept.registries_never_fall (at_most refl) kept.names_never_fall)
    refl (λ known k. c.in_ok-kept.ensures.found known k.stores.registries k.stores.namespaces) c.in_default.is

pub returns-in_err-releases-clause-refused : goal.returns-in_err-releases-clause-refused
returns-in_err-releases-clause-refused g c =
    let kept = c.load_kept.ensures in
    let q = err_from_is_err_and c.from_residual-in_err-releases.result c.from_residual-in_err-releases.ensures.1 in
    rw (q.1, q.2) (unrecalled_by _ _ _ fetch.Memory
    (asks_by _ _ refl refl refl kept.kept refl kept.names_kept refl refl (at_most refl) kept.registries_never_fall (at_most refl) kept.names_never_fall)
    refl (λ known k. record {}))

pub returns-in_err-note_registry-clause-refused : goal.returns-in_err-note_registry-clause-refused
returns-in_err-note_registry-clause-refused g c =
    let kept = c.load_kept.ensures in
    let q = err_from_is_err_and c.from_residual-in_err-note_registry.result c.from_residual-in_err-note_registry.ensures.1 in
    rw (q.1, q.2) (unrecalled_by _ _ _ fetch.Memory
    (asks_by _ _ refl refl refl kept.kept refl kept.names_kept refl refl (at_most refl) kept.registries_never_fall (at_most refl) kept.names_never_fall)
    c.in_err-note_registry.ensures.unchanged (λ known k. record {}))

pub returns-clause-recalled : goal.returns-clause-recalled
returns-clause-recalled g c =
    let kept = c.load_kept.ensures in
    recalled_by _ _ _ c.in_ok-kept.kept.registry c.in_ok-kept.kept.info c.in-Some.info _ c.in_ok-key.key
    (asks_by _ _ refl refl refl kept.kept refl kept.names_kept refl refl (at_most refl) kept.registries_never_fall (at_most refl) kept.names_never_fall)
    (λ known k. c.in_ok-kept.ensures.under known k.stores.registries k.stores.namespaces)
    (λ known k. c.in_ok-kept.ensures.found known k.stores.registries k.stores.namespaces)
    c.in-Some.is (c.in_ok-releases.ensures (if_some IsSoundPackage c.in_ok-kept.kept.info c.in-Some.info c.in-Some.is c.in_ok-kept.ensures.sound)) c.in_ok-key.ensures c.in_ok-note_registry.ensures.noted.0
