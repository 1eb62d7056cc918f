use Rattle.std.proofs.Common.{inl, inr}
use Rattle.std.proofs.lemmas.Result.{err_from_is_err_and}
use Rattle.warg_fetch.specs.StoredLaws.{own_still}
use Rattle.warg_learn.specs.Seen.{seen, tells}
use Rattle.warg_learn.proofs.GroupSteps.{all_forgotten, own_grouped}
use Rattle.warg_learn.proofs.learner.Learner.fetch_packages.Goals as goal

pub returns-in_err-groups-clause-refused : goal.returns-in_err-groups-clause-refused
returns-in_err-groups-clause-refused g c =
    let q = err_from_is_err_and c.from_residual.result c.from_residual.ensures.1 in
    rw (q.1, q.2) (inl c.in_err-groups.ensures.refused)

pub returns-in_err-groups-clause-own : goal.returns-in_err-groups-clause-own
returns-in_err-groups-clause-own g c = λ known k. own_still _ _ _ k.stores.own c.in_err-groups.ensures.refused.asks.registries

pub returns-in_err-found-clause-refused : goal.returns-in_err-found-clause-refused
returns-in_err-found-clause-refused g c =
    let q = err_from_is_err_and c.from_residual-in_err-found.result c.from_residual-in_err-found.ensures.1 in
    rw (q.1, q.2) (inr (record { groups = _; between = _; are = c.in_ok-groups.ensures.grouped; refused = c.in_err-found.ensures.refused }))

pub returns-in_err-found-clause-own : goal.returns-in_err-found-clause-own
returns-in_err-found-clause-own g c = λ known k.
    let tell = tells g.V.Verifier.good g.L.Link.told g.L.Link.faults g.R.RegistryStorage.told g.R.RegistryStorage.faults g.C.ContentStorage.told g.C.ContentStorage.faults g.N.NamespaceMapStorage.told g.N.NamespaceMapStorage.faults in
    own_grouped _ _ (seen tell c.update_groups.new.self) _ _ known k c.in_ok-groups.ensures.grouped c.update_groups.ensures.own

pub returns-in_err-in_order-clause-refused : goal.returns-in_err-in_order-clause-refused
returns-in_err-in_order-clause-refused g c =
    let q = err_from_is_err_and c.from_residual-in_err-in_order.result c.from_residual-in_err-in_order.ensures.1 in
    let found = c.in_ok-found.ensures.learnt in
    rw (q.1, q.2) (inr (record { groups = _; between = _; are = c.in_ok-groups.ensures.grouped; refused = all_forgotten _ _ _ _ _ found.0 found.2 }))

pub returns-in_err-in_order-clause-own : goal.returns-in_err-in_order-clause-own
returns-in_err-in_order-clause-own g c = λ known k.
    let tell = tells g.V.Verifier.good g.L.Link.told g.L.Link.faults g.R.RegistryStorage.told g.R.RegistryStorage.faults g.C.ContentStorage.told g.C.ContentStorage.faults g.N.NamespaceMapStorage.told g.N.NamespaceMapStorage.faults in
    own_grouped _ _ (seen tell c.update_groups.new.self) _ _ known k c.in_ok-groups.ensures.grouped c.update_groups.ensures.own

pub returns-clause-updated : goal.returns-clause-updated
returns-clause-updated g c =
    let found = c.in_ok-found.ensures.learnt in
    record {
      groups = _;
      between = _;
      are = c.in_ok-groups.ensures.grouped;
      updates = found.0;
      learnt = found.2;
      answers = c.in_ok-in_order.ensures.answers _ found.1;
    }

pub returns-clause-own : goal.returns-clause-own
returns-clause-own g c = λ known k.
    let tell = tells g.V.Verifier.good g.L.Link.told g.L.Link.faults g.R.RegistryStorage.told g.R.RegistryStorage.faults g.C.ContentStorage.told g.C.ContentStorage.faults g.N.NamespaceMapStorage.told g.N.NamespaceMapStorage.faults in
    own_grouped _ _ (seen tell c.update_groups.new.self) _ _ known k c.in_ok-groups.ensures.grouped c.update_groups.ensures.own
