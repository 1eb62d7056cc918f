use Rattle.std.proofs.Common.{refl, ap, ◌∙◌}
use Rattle.std.proofs.lemmas.Result.{err_from_is_err_and}
use Rattle.warg_learn.proofs.LogLaws.{log_forgotten, log_learnt, log_unasked, releases_learnt, taught_still}
use Rattle.warg_learn.proofs.learner.Learner.update_log.Goals as goal

pub returns-in_err-key-clause-refused : goal.returns-in_err-key-clause-refused
returns-in_err-key-clause-refused g c =
    let q = err_from_is_err_and c.from_residual.result c.from_residual.ensures.1 in
    rw (q.1, q.2) (log_unasked _ _ _ _ _)

pub returns-in_err-update-clause-refused : goal.returns-in_err-update-clause-refused
returns-in_err-update-clause-refused g c =
    let q = err_from_is_err_and c.from_residual-in_err-update.result c.from_residual-in_err-update.ensures.1 in
    rw (q.1, q.2) c.in_err-update.ensures.refused

pub returns-in_err-releases-clause-refused : goal.returns-in_err-releases-clause-refused
returns-in_err-releases-clause-refused g c =
    let q = err_from_is_err_and c.from_residual-in_err-releases.result c.from_residual-in_err-releases.ensures.1 in
    rw (q.1, q.2) (log_forgotten _ _ _ _ _ _ c.in_ok-update.update c.in_ok-update.ensures.taught
    (ap (λ u. u.entries) c.update_package.ensures.updated))

pub returns-in_err-note_registry-clause-refused : goal.returns-in_err-note_registry-clause-refused
returns-in_err-note_registry-clause-refused g c =
    let q = err_from_is_err_and c.from_residual-in_err-note_registry.result c.from_residual-in_err-note_registry.ensures.1 in
    rw (q.1, q.2) (log_forgotten _ _ _ _ _ _ c.in_ok-update.update
    (taught_still _ _ _ _ c.in_ok-update.update _ _ c.in_ok-update.ensures.taught)
    (c.in_err-note_registry.ensures.unchanged ∙ ap (λ u. u.entries) c.update_package.ensures.updated))

pub returns-clause-learnt : goal.returns-clause-learnt
returns-clause-learnt g c =
    let got = c.in_ok-update.update in
    let taught = c.in_ok-update.ensures.taught in
    releases_learnt _ _ _ _ _ got _ (c.in_ok-releases.ensures taught.sound)
    (log_learnt _ _ _ _ _ got (taught_still _ _ _ _ got _ _ taught) refl
    _ (ap (λ u. u.entries) c.update_package.ensures.updated) c.in_ok-key.key c.in_ok-key.ensures c.in_ok-note_registry.ensures.noted.0)
