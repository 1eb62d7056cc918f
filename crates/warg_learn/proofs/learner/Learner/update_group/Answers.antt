use Rattle.std.proofs.Common.{Err, refl, ap}
use Rattle.std.proofs.lemmas.Result.{err_from_is_err_and}
use Rattle.warg_learn.proofs.GroupSteps.{group_taught, group_unasked, group_unlearnt}
use Rattle.warg_learn.proofs.learner.Learner.update_group.Goals as goal

pub returns-in_err-packages-clause-refused : goal.returns-in_err-packages-clause-refused
returns-in_err-packages-clause-refused g c =
    let q = err_from_is_err_and c.from_residual.result c.from_residual.ensures.1 in
    rw (q.1, q.2) (group_unasked _ _ _ _)

pub returns-in_err-update-clause-refused : goal.returns-in_err-update-clause-refused
returns-in_err-update-clause-refused g c =
    let q = err_from_is_err_and c.from_residual-in_err-update.result c.from_residual-in_err-update.ensures.1 in
    let fetch = c.fetch_group.ensures in
    let made = c.in_ok-packages.ensures in
    rw (q.1, q.2) (group_unlearnt _ _ _ _ _ made.empty _ c.in_err-update.field-0.0 refl refl refl refl refl fetch.link_never_falls fetch.registries_never_fall refl refl
    (λ is. c.in_err-update.ensures.link_fault (ap (λ e. Err e) is))
    (λ known k. c.in_err-update.ensures.cause known k (made.good _))
    (λ known k. c.in_err-update.ensures.held known k (made.good _))
    (λ known k. fetch.own known k (made.good _))
    (λ known k. fetch.begun known k (made.good _)))

pub returns-clause-learnt : goal.returns-clause-learnt
returns-clause-learnt g c =
    let fetch = c.fetch_group.ensures in
    let made = c.in_ok-packages.ensures in
    let got = c.in_ok-update.update in
    group_taught _ _ _ _ _ made.empty got refl refl refl refl refl refl fetch.link_never_falls fetch.registries_never_fall refl refl
    (λ known k. c.in_ok-update.ensures.updated known k (made.good _))
    (λ known k. c.in_ok-update.ensures.knows known k (made.good _))
    (λ known k. c.in_ok-update.ensures.unasked known k (made.good _))
    c.in_ok-update.ensures.readable

pub returns-clause-sound : goal.returns-clause-sound
returns-clause-sound g c = c.in_ok-update.ensures.sound.packages
