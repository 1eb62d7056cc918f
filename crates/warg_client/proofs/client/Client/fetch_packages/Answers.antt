use Rattle.std.proofs.Common.{refl, sym, ap, subst}
use Rattle.std.proofs.lemmas.Result.{err_from_is_err_and}
use Rattle.warg_learn.specs.Groups.{AreNotUpdated, AreUpdatedLogs}
use Rattle.warg_learn.specs.Seen.{Seen, IsKnown, seen, tells}
use Rattle.warg_learn.specs.Stored.{IsOwnStore}
use Rattle.warg_client.proofs.client.Client.fetch_packages.Goals as goal

pub returns-in_err-fetch_packages-clause-cause : goal.returns-in_err-fetch_packages-clause-cause
returns-in_err-fetch_packages-clause-cause g c =
    let tell = tells g.V.Verifier.good g.L.Link.told g.L.Link.faults g.R.RegistryStorage.told g.R.RegistryStorage.faults g.C.ContentStorage.told g.C.ContentStorage.faults g.N.NamespaceMapStorage.told g.N.NamespaceMapStorage.faults in
    let q = err_from_is_err_and c.from_residual.result c.from_residual.ensures.1 in
    rw (q.1, q.2) (record {
      refusal = c.in_err-fetch_packages.field-0.0;
      told = refl;
      refuses = subst (λ old. AreNotUpdated g.L.Link.Steps g.D.Decide.said old (seen tell c.fetch_packages.new.self) c.args.names.now c.in_err-fetch_packages.field-0.0) (c.restart.ensures.begins tell) c.in_err-fetch_packages.ensures.refused;
    })

pub returns-in_err-fetch_packages-clause-own : goal.returns-in_err-fetch_packages-clause-own
returns-in_err-fetch_packages-clause-own g c = λ known knows.
    let tell = tells g.V.Verifier.good g.L.Link.told g.L.Link.faults g.R.RegistryStorage.told g.R.RegistryStorage.faults g.C.ContentStorage.told g.C.ContentStorage.faults g.N.NamespaceMapStorage.told g.N.NamespaceMapStorage.faults in
    subst (λ a. IsOwnStore a (g.R.RegistryStorage.told c.fetch_packages.new.self.registries)) (ap (λ (s : Seen g.L.Link.Told g.row.D.Denot). s.accepts) (c.restart.ensures.begins tell))
    (c.fetch_packages.ensures.own known (subst (λ s. IsKnown s known) (sym (c.restart.ensures.begins tell)) knows))

pub returns-clause-updated : goal.returns-clause-updated
returns-clause-updated g c =
    let tell = tells g.V.Verifier.good g.L.Link.told g.L.Link.faults g.R.RegistryStorage.told g.R.RegistryStorage.faults g.C.ContentStorage.told g.C.ContentStorage.faults g.N.NamespaceMapStorage.told g.N.NamespaceMapStorage.faults in
    subst (λ old. AreUpdatedLogs g.L.Link.Steps old (seen tell c.fetch_packages.new.self) c.args.names.now c.in_ok-fetch_packages.field-0.items) (c.restart.ensures.begins tell) c.in_ok-fetch_packages.ensures.updated

pub returns-clause-own : goal.returns-clause-own
returns-clause-own g c = λ known knows.
    let tell = tells g.V.Verifier.good g.L.Link.told g.L.Link.faults g.R.RegistryStorage.told g.R.RegistryStorage.faults g.C.ContentStorage.told g.C.ContentStorage.faults g.N.NamespaceMapStorage.told g.N.NamespaceMapStorage.faults in
    subst (λ a. IsOwnStore a (g.R.RegistryStorage.told c.fetch_packages.new.self.registries)) (ap (λ (s : Seen g.L.Link.Told g.row.D.Denot). s.accepts) (c.restart.ensures.begins tell))
    (c.fetch_packages.ensures.own known (subst (λ s. IsKnown s known) (sym (c.restart.ensures.begins tell)) knows))
