use Rattle.std.proofs.Common.{Some, bytes_eq, cond, refl, ap, ◌∙◌}
use Rattle.std.proofs.lemmas.Result.{err_from_is_err_and}
use Rattle.std.specs.Map.{lookup}
use Rattle.warg_learn.proofs.LogLaws.{log_forgotten, log_learnt, log_unasked, log_updated, taught_still}
use Rattle.warg_learn.proofs.learner.Learner.fetch_package.Goals as goal

pub returns-in_err-key-clause-refused : goal.returns-in_err-key-clause-refused
returns-in_err-key-clause-refused g c =
    let q = err_from_is_err_and c.from_residual.result c.from_residual.ensures.1 in
    rw (q.1, q.2) (log_unasked _ _ _ _ _)

pub returns-in_err-registry-clause-refused : goal.returns-in_err-registry-clause-refused
returns-in_err-registry-clause-refused g c =
    let q = err_from_is_err_and c.from_residual-in_err-registry.result c.from_residual-in_err-registry.ensures.1 in
    rw (q.1, q.2) (log_forgotten _ _ _ _ _ _ c.in_ok-update.update c.in_ok-update.ensures.taught
    (ap (λ u. u.entries) c.update_package.ensures.updated))

pub returns-in_err-registry-clause-own : goal.returns-in_err-registry-clause-own
returns-in_err-registry-clause-own g c = λ known k. c.in_ok-update.ensures.taught.way.own known k.stores

pub returns-in_err-note_registry-clause-refused : goal.returns-in_err-note_registry-clause-refused
returns-in_err-note_registry-clause-refused g c =
    let q = err_from_is_err_and c.from_residual-in_err-note_registry.result c.from_residual-in_err-note_registry.ensures.1 in
    rw (q.1, q.2) (log_forgotten _ _ _ _ _ _ c.in_ok-update.update
    (taught_still _ _ _ _ c.in_ok-update.update _ _ c.in_ok-update.ensures.taught)
    (c.in_err-note_registry.ensures.unchanged ∙ ap (λ u. u.entries) c.update_package.ensures.updated))

pub returns-in_err-note_registry-clause-own : goal.returns-in_err-note_registry-clause-own
returns-in_err-note_registry-clause-own g c = λ known k. c.in_ok-update.ensures.taught.way.own known k.stores

pub returns-clause-updated : goal.returns-clause-updated
returns-clause-updated g c =
    let got = c.in_ok-update.update in
    let taught = taught_still _ _ _ _ got _ _ c.in_ok-update.ensures.taught in
    log_updated _ _ _ _ _ got taught
    (log_learnt _ _ _ _ _ got taught refl _ (ap (λ u. u.entries) c.update_package.ensures.updated) c.in_ok-key.key c.in_ok-key.ensures
    (λ q. c.in_ok-note_registry.ensures.noted.0 q ∙ ap (λ r. cond (bytes_eq c.in_ok-key.key q) (Some r) (lookup (λ n. bytes_eq q n) c.update_package.new.self.updated.entries)) c.in_ok-registry.ensures))

pub returns-clause-own : goal.returns-clause-own
returns-clause-own g c = λ known k. c.in_ok-update.ensures.taught.way.own known k.stores
