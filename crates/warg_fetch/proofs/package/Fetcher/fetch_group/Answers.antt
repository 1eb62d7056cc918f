use Rattle.std.proofs.Common.{map, refl}
use Rattle.std.proofs.lemmas.Result.{err_from_is_err_and}
use Rattle.warg_api.specs.Asking.{asker}
use Rattle.warg_page.specs.Views.{package_view}
use Rattle.warg_fetch.specs.Groups.{writes_in_group}
use Rattle.warg_fetch.proofs.GroupLaws.{group_known, group_own, group_readable, unfetched_fault, unfetched_group, unkept_fault, unkept_group}
use Rattle.warg_fetch.proofs.KeptLaws.{stored_front}
use Rattle.warg_fetch.specs.StoredLaws.{own_still}
use Rattle.warg_fetch.proofs.package.Fetcher.fetch_group.Goals as goal

pub returns-in_err-update-clause-held : goal.returns-in_err-update-clause-held
returns-in_err-update-clause-held g c =
    let q = err_from_is_err_and c.from_residual.result c.from_residual.ensures.1 in
    rw q.1 (λ known k are. unfetched_group _ (asker c.args.self.now.client.now) known c.args.registry (map package_view c.args.packages.items) g.L.Link.Steps _ _ _ _ k c.update_group.ensures.kept)

pub returns-in_err-update-clause-own : goal.returns-in_err-update-clause-own
returns-in_err-update-clause-own g c = λ known k are. own_still _ _ _ k.own c.update_group.ensures.kept

pub returns-in_err-update-clause-cause : goal.returns-in_err-update-clause-cause
returns-in_err-update-clause-cause g c =
    let q = err_from_is_err_and c.from_residual.result c.from_residual.ensures.1 in
    rw (q.1, q.2) (λ known k are. unfetched_fault _ (asker c.args.self.now.client.now) known c.args.registry (map package_view c.args.packages.items) g.L.Link.Steps _ _ c.in_err-update.field-0.0 _ _ _ c.args.packages.items refl (c.in_err-update.ensures.cause known k are))

pub returns-in_err-keep_group-clause-held : goal.returns-in_err-keep_group-clause-held
returns-in_err-keep_group-clause-held g c =
    let q = err_from_is_err_and c.from_residual-in_err-keep_group.result c.from_residual-in_err-keep_group.ensures.1 in
    let got = c.in_ok-update.ensures in
    rw q.1 (λ known k are. unkept_group _ (asker c.args.self.now.client.now) known c.args.registry (map package_view c.args.packages.items) g.L.Link.Steps _ _ _ _ _ k c.in_ok-update.update c.update_group.ensures.kept ((got.updated known k are).exchanges, (got.updated known k are).fetched) got.writes
    c.in_err-keep_group.ensures.refused)

pub returns-in_err-keep_group-clause-own : goal.returns-in_err-keep_group-clause-own
returns-in_err-keep_group-clause-own g c = λ known k are.
    let got = c.in_ok-update.ensures in
    group_own _ _ _ _ c.in_ok-update.update k.own c.update_group.ensures.kept (got.good known k are) c.in_err-keep_group.ensures.refused

pub returns-in_err-keep_group-clause-cause : goal.returns-in_err-keep_group-clause-cause
returns-in_err-keep_group-clause-cause g c =
    let q = err_from_is_err_and c.from_residual-in_err-keep_group.result c.from_residual-in_err-keep_group.ensures.1 in
    let got = c.in_ok-update.ensures in
    rw (q.1, q.2) (λ known k are. unkept_fault _ (asker c.args.self.now.client.now) known c.args.registry (map package_view c.args.packages.items) g.L.Link.Steps _ _ c.in_err-keep_group.field-0.0 _ _ _ _ c.in_ok-update.update c.update_group.ensures.registries_never_fall
    ((got.updated known k are).exchanges, (got.updated known k are).fetched) c.in_err-keep_group.ensures.fault)

pub returns-clause-knows : goal.returns-clause-knows
returns-clause-knows g c = λ known k are xs.
    let got = c.in_ok-update.ensures in
    group_known _ _ _ _ c.in_ok-update.update xs known k c.update_group.ensures.kept (got.good known k are) (got.writes xs) c.in_ok-keep_group.ensures.stored

pub returns-clause-own : goal.returns-clause-own
returns-clause-own g c = λ known k are.
    let got = c.in_ok-update.ensures in
    group_own _ _ _ _ c.in_ok-update.update k.own c.update_group.ensures.kept (got.good known k are) (stored_front _ _ (writes_in_group c.in_ok-update.update) c.in_ok-keep_group.ensures.stored)

pub returns-clause-readable : goal.returns-clause-readable
returns-clause-readable g c = λ reads. group_readable _ _ _ c.in_ok-update.update reads c.update_group.ensures.kept c.in_ok-keep_group.ensures.stored

pub returns-clause-sound : goal.returns-clause-sound
returns-clause-sound g c = c.in_ok-update.ensures.sound c.requires
