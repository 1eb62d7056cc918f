use Rattle.std.proofs.Common.{◌≡◌, map, refl}
use Rattle.std.proofs.lemmas.Result.{err_from_is_err_and}
use Rattle.warg_api.specs.Asking.{asker}
use Rattle.warg_page.specs.Steps.{id_of}
use Rattle.warg_page.specs.Views.{logs_view, package_view}
use Rattle.warg_session.specs.Recording.{transcript}
use Rattle.warg_session.specs.Updating.{start_view}
use Rattle.warg_fetch.specs.Groups.{group_start}
use Rattle.warg_fetch.proofs.GroupLaws.{begun_as, cause_as, group_fetched, pages_as}
use Rattle.warg_fetch.proofs.UpdateSteps.{store_fault, update_fault}
use Rattle.warg_fetch.proofs.package.Fetcher.update_group.Goals as goal

pub returns-in_err-start-clause-cause : goal.returns-in_err-start-clause-cause
returns-in_err-start-clause-cause g c =
    let q = err_from_is_err_and c.from_residual-in_err-start.result c.from_residual-in_err-start.ensures.1 in
    rw (q.1, q.2) (λ known k are. store_fault c.in_err-start.field-0.0 _ _ c.in_err-start.ensures.fault)

pub returns-in_err-updated-clause-begun : goal.returns-in_err-updated-clause-begun
returns-in_err-updated-clause-begun g c = λ known k are.
    let start = c.in_ok-start.ensures in
    begun_as (asker c.args.self.now.client.now) _ _ c.in_ok-start.start.registry c.args.registry _ (group_start known c.args.registry (map package_view c.args.packages.items)) start.registry (start.begins known k.registries) (c.run_update.ensures.begun (start.good _ k.own are))

pub returns-in_err-updated-clause-cause : goal.returns-in_err-updated-clause-cause
returns-in_err-updated-clause-cause g c =
    let q = err_from_is_err_and c.from_residual-in_err-updated.result c.from_residual-in_err-updated.ensures.1 in
    let start = c.in_ok-start.ensures in
    let ids : map id_of c.in_ok-start.start.packages.items ≡ map id_of c.args.packages.items = rw start.packages refl in
    rw (q.1, q.2) (λ known k are. update_fault c.in_err-updated.field-0.0 _ _
    (cause_as (asker c.args.self.now.client.now) _ _ c.in_ok-start.start.registry c.args.registry _ (group_start known c.args.registry (map package_view c.args.packages.items)) c.in_err-updated.field-0.0 _ _ _ _ _ _ ids start.registry (start.begins known k.registries) (c.in_err-updated.ensures.cause (start.good _ k.own are))))

pub returns-in_err-group_update-clause-begun : goal.returns-in_err-group_update-clause-begun
returns-in_err-group_update-clause-begun g c = λ known k are.
    let start = c.in_ok-start.ensures in
    begun_as (asker c.args.self.now.client.now) _ _ c.in_ok-start.start.registry c.args.registry _ (group_start known c.args.registry (map package_view c.args.packages.items)) start.registry (start.begins known k.registries) (c.run_update.ensures.begun (start.good _ k.own are))

pub returns-clause-updated : goal.returns-clause-updated
returns-clause-updated g c = λ known k are.
    let start = c.in_ok-start.ensures in
    let proved = c.in_ok-updated.updated.proved in
    let got = c.in_ok-group_update.ensures in
    let p = c.in_ok-updated.ensures.proves (start.good _ k.own are) in record {
      exchanges = p.exchanges;
      fetched = group_fetched _ (asker c.args.self.now.client.now) known c.args.registry (map package_view c.args.packages.items) g.L.Link.Steps _ _ c.in_ok-start.start.registry _ (logs_view proved.operator proved.packages.items) proved.checkpoint c.in_ok-group_update.field-0 start.registry (start.begins known k.registries)
          (rw c.in_ok-named.ensures at got.registry) got.checkpoint (λ xs. got.logs) p;
      pages = rw got.pages (pages_as (asker c.args.self.now.client.now) (transcript g.L.Link.told c.args.link.now) (transcript g.L.Link.told c.run_update.new.link) c.in_ok-start.start.registry c.args.registry (start_view c.in_ok-start.start) (start_view c.in_ok-start.start) _ _ start.registry (c.in_ok-updated.ensures.pages (start.good _ k.own are)));
    }

pub returns-clause-sound : goal.returns-clause-sound
returns-clause-sound g c = λ are. c.in_ok-group_update.ensures.sound (c.in_ok-updated.ensures.sound (c.in_ok-start.ensures.sound are))

pub returns-clause-good : goal.returns-clause-good
returns-clause-good g c = λ known k are.
    let logs = c.in_ok-updated.ensures.good (c.in_ok-start.ensures.good _ k.own are) in
    c.in_ok-group_update.ensures.good _ logs.0 logs.1

pub returns-clause-unasked : goal.returns-clause-unasked
returns-clause-unasked g c = λ known k are. c.in_ok-updated.ensures.unasked (c.in_ok-start.ensures.good _ k.own are)

pub returns-clause-begun : goal.returns-clause-begun
returns-clause-begun g c = λ known k are.
    let start = c.in_ok-start.ensures in
    begun_as (asker c.args.self.now.client.now) _ _ c.in_ok-start.start.registry c.args.registry _ (group_start known c.args.registry (map package_view c.args.packages.items)) start.registry (start.begins known k.registries) (c.run_update.ensures.begun (start.good _ k.own are))
