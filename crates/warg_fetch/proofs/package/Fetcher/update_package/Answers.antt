use Rattle.std.proofs.Common.{arith}
use Rattle.std.proofs.lemmas.Result.{err_from_is_err_and}
use Rattle.warg_api.specs.Asking.{asker}
use Rattle.warg_session.specs.Recording.{transcript}
use Rattle.warg_session.specs.Updating.{start_view}
use Rattle.warg_fetch.proofs.UpdateSteps.{store_fault, update_fault, begun_by, cause_by, fetched_by, named_by, pages_by}
use Rattle.warg_fetch.proofs.package.Fetcher.update_package.Goals as goal

pub returns-in_err-start-clause-cause : goal.returns-in_err-start-clause-cause
returns-in_err-start-clause-cause g c =
    let q = err_from_is_err_and c.from_residual.result c.from_residual.ensures.1 in
    rw (q.1, q.2) (λ known k. store_fault c.in_err-start.field-0.0 _ _ (c.in_err-start.ensures.fault known k.registries k.namespaces))

pub returns-in_err-updated-clause-begun : goal.returns-in_err-updated-clause-begun
returns-in_err-updated-clause-begun g c = λ known k.
    let start = c.in_ok-start.ensures in
    begun_by (asker c.args.self.now.client.now) known _ _ c.in_ok-start.start.registry _ c.args.name.now _ (start.registry known k.registries k.namespaces) (start.begins known k.registries) (c.run_update.ensures.begun (start.good _ k.own))

pub returns-in_err-updated-clause-cause : goal.returns-in_err-updated-clause-cause
returns-in_err-updated-clause-cause g c =
    let q = err_from_is_err_and c.from_residual-in_err-updated.result c.from_residual-in_err-updated.ensures.1 in
    let start = c.in_ok-start.ensures in
    rw (q.1, q.2) (λ known k. update_fault c.in_err-updated.field-0.0 _ _
    (cause_by (asker c.args.self.now.client.now) known _ _ c.in_ok-start.start.registry _ c.args.name.now _ c.in_err-updated.field-0.0 _ _ _ _ _ _ start.ids (start.registry known k.registries k.namespaces) (start.begins known k.registries) (c.in_err-updated.ensures.cause (start.good _ k.own))))

pub returns-in_err-package_update-clause-begun : goal.returns-in_err-package_update-clause-begun
returns-in_err-package_update-clause-begun g c = λ known k.
    let start = c.in_ok-start.ensures in
    begun_by (asker c.args.self.now.client.now) known _ _ c.in_ok-start.start.registry _ c.args.name.now _ (start.registry known k.registries k.namespaces) (start.begins known k.registries) (c.run_update.ensures.begun (start.good _ k.own))

pub returns-clause-fetched : goal.returns-clause-fetched
returns-clause-fetched g c = λ known k.
    let start = c.in_ok-start.ensures in
    let proved = c.in_ok-updated.updated.proved in
    let p = c.in_ok-updated.ensures.proves (start.good _ k.own) in record {
      named = named_by _ (asker c.args.self.now.client.now) known _ _ _ c.in_ok-start.start.registry c.in_ok-start.start.registry c.args.name.now _ c.in_ok-package_update.field-0 proved.operator proved.packages.items proved.checkpoint (start.begins known k.registries) c.in_ok-package_update.ensures.logs p;
      exchanges = p.exchanges;
      fetched = fetched_by _ (asker c.args.self.now.client.now) known _ _ _ c.in_ok-registry.registry c.in_ok-start.start.registry c.args.name.now _ c.in_ok-package_update.field-0 proved.operator proved.packages.items proved.checkpoint c.in_ok-registry.ensures (start.registry known k.registries k.namespaces)
          c.in_ok-package_update.ensures.registry c.in_ok-package_update.ensures.checkpoint (start.begins known k.registries) c.in_ok-package_update.ensures.logs p;
      pages = rw c.in_ok-package_update.ensures.pages (pages_by (asker c.args.self.now.client.now) known (transcript g.L.Link.told c.args.link.now) (transcript g.L.Link.told c.run_update.new.link) c.in_ok-start.start.registry _ c.args.name.now (start_view c.in_ok-start.start) _ _ (start.registry known k.registries k.namespaces) (c.in_ok-updated.ensures.pages (start.good _ k.own)));
    }

pub returns-clause-good : goal.returns-clause-good
returns-clause-good g c = λ known k.
    let are = c.in_ok-updated.ensures.good (c.in_ok-start.ensures.good _ k.own) in
    c.in_ok-package_update.ensures.good _ are.0 are.1

pub returns-clause-unasked : goal.returns-clause-unasked
returns-clause-unasked g c = λ known k. c.in_ok-updated.ensures.unasked (c.in_ok-start.ensures.good _ k.own)

pub returns-clause-begun : goal.returns-clause-begun
returns-clause-begun g c = λ known k.
    let start = c.in_ok-start.ensures in
    begun_by (asker c.args.self.now.client.now) known _ _ c.in_ok-start.start.registry _ c.args.name.now _ (start.registry known k.registries k.namespaces) (start.begins known k.registries) (c.run_update.ensures.begun (start.good _ k.own))
