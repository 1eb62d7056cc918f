use Rattle.std.proofs.Common.{[]}
use Rattle.std.proofs.lemmas.Result.{err_from_is_err_and}
use Rattle.warg_api.specs.Asking.{asker}
use Rattle.warg_fetch.specs.Fetched.{writes_in}
use Rattle.warg_fetch.proofs.KeptLaws.{known_kept, own_kept, readable_kept, stored_front, unfetched_cause, unfetched_leaves, unkept_cause, unkept_leaves}
use Rattle.warg_fetch.specs.StoredLaws.{own_still}
use Rattle.warg_fetch.proofs.package.Fetcher.fetch_package.Goals as goal

pub returns-in_err-update-clause-held : goal.returns-in_err-update-clause-held
returns-in_err-update-clause-held g c =
    let q = err_from_is_err_and c.from_residual.result c.from_residual.ensures.1 in
    rw q.1 (λ known k. unfetched_leaves _ (asker c.args.self.now.client.now) known c.args.name.now g.L.Link.Steps _ _ _ _ _ k c.update_package.ensures.kept)

pub returns-in_err-update-clause-own : goal.returns-in_err-update-clause-own
returns-in_err-update-clause-own g c = λ known k. own_still _ _ _ k.own c.update_package.ensures.kept

pub returns-in_err-update-clause-cause : goal.returns-in_err-update-clause-cause
returns-in_err-update-clause-cause g c =
    let q = err_from_is_err_and c.from_residual.result c.from_residual.ensures.1 in
    rw (q.1, q.2) (λ known k. unfetched_cause _ (asker c.args.self.now.client.now) known c.args.name.now g.L.Link.Steps _ _ c.in_err-update.field-0.0 _ _ _ (c.in_err-update.ensures.cause known k))

pub returns-in_err-keep_update-clause-held : goal.returns-in_err-keep_update-clause-held
returns-in_err-keep_update-clause-held g c =
    let q = err_from_is_err_and c.from_residual-in_err-keep_update.result c.from_residual-in_err-keep_update.ensures.1 in
    let got = c.in_ok-update.ensures in
    rw q.1 (λ known k. unkept_leaves _ (asker c.args.self.now.client.now) known c.args.name.now g.L.Link.Steps _ _ _ _ _ _ k c.in_ok-update.update c.update_package.ensures.kept (got.fetched known k).named ((got.fetched known k).exchanges, (got.fetched known k).fetched) got.writes
    c.in_err-keep_update.ensures.refused)

pub returns-in_err-keep_update-clause-own : goal.returns-in_err-keep_update-clause-own
returns-in_err-keep_update-clause-own g c = λ known k.
    let got = c.in_ok-update.ensures in
    own_kept _ _ _ _ c.in_ok-update.update [] k.own c.update_package.ensures.kept (got.good known k) (got.writes []) c.in_err-keep_update.ensures.refused

pub returns-in_err-keep_update-clause-cause : goal.returns-in_err-keep_update-clause-cause
returns-in_err-keep_update-clause-cause g c =
    let q = err_from_is_err_and c.from_residual-in_err-keep_update.result c.from_residual-in_err-keep_update.ensures.1 in
    let got = c.in_ok-update.ensures in
    rw (q.1, q.2) (λ known k. unkept_cause _ (asker c.args.self.now.client.now) known c.args.name.now g.L.Link.Steps _ _ c.in_err-keep_update.field-0.0 _ _ _ _ c.in_ok-update.update c.update_package.ensures.registries_never_fall (got.fetched known k).named
    ((got.fetched known k).exchanges, (got.fetched known k).fetched) c.in_err-keep_update.ensures.fault)

pub returns-clause-knows : goal.returns-clause-knows
returns-clause-knows g c = λ known k xs.
    let got = c.in_ok-update.ensures in
    known_kept _ _ _ _ c.in_ok-update.update xs _ _ known k c.update_package.ensures.kept c.update_package.ensures.names_kept (got.good known k) (got.writes xs) c.in_ok-keep_update.ensures.stored

pub returns-clause-readable : goal.returns-clause-readable
returns-clause-readable g c = λ reads. readable_kept _ _ _ c.in_ok-update.update reads c.update_package.ensures.kept c.in_ok-keep_update.ensures.stored

pub returns-clause-own : goal.returns-clause-own
returns-clause-own g c = λ known k.
    let got = c.in_ok-update.ensures in
    own_kept _ _ _ _ c.in_ok-update.update [] k.own c.update_package.ensures.kept (got.good known k) (got.writes []) (stored_front _ _ (writes_in c.in_ok-update.update) c.in_ok-keep_update.ensures.stored)
