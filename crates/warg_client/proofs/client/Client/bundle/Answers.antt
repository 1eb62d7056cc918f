use Rattle.std.proofs.Common.{subst}
use Rattle.comp_shape.specs.Refusal.{IsRefused}
use Rattle.warg_learn.specs.Recalled.{IsNeitherLearnt, IsRecalledOrLearnt, taught}
use Rattle.warg_learn.specs.Seen.{seen, tells}
use Rattle.warg_bundle.specs.Bundle.{IsBundleFault, IsReleaseBundle}
use Rattle.warg_compose.specs.Read.{IsComponent}
use Rattle.warg_client.proofs.BundleLaws.{bundle_own, lesson_components, refusal_own}
use Rattle.warg_client.proofs.client.Client.bundle.Goals as goal

-- what is learnt are components
pub bundle_releases-requires : goal.bundle_releases-requires
bundle_releases-requires g c = record { components = λ known old new asked lesson learns are. lesson_components g.L.Link.Steps known old new asked lesson learns are }

pub returns-in-Ok-clause-bundled : goal.returns-in-Ok-clause-bundled
returns-in-Ok-clause-bundled g c =
    let tell = tells g.V.Verifier.good g.L.Link.told g.L.Link.faults g.R.RegistryStorage.told g.R.RegistryStorage.faults g.C.ContentStorage.told g.C.ContentStorage.faults g.N.NamespaceMapStorage.told g.N.NamespaceMapStorage.faults in
    subst (λ old. IsReleaseBundle taught (IsRecalledOrLearnt g.L.Link.Steps IsComponent) old (seen tell c.bundle_releases.new.learner) c.args.bytes.now c.in-Ok.out.items) (c.restart.ensures.begins tell) c.in-Ok.ensures.bundled

pub returns-in-Ok-clause-own : goal.returns-in-Ok-clause-own
returns-in-Ok-clause-own g c = λ known knows.
    let tell = tells g.V.Verifier.good g.L.Link.told g.L.Link.faults g.R.RegistryStorage.told g.R.RegistryStorage.faults g.C.ContentStorage.told g.C.ContentStorage.faults g.N.NamespaceMapStorage.told g.N.NamespaceMapStorage.faults in
    let new = seen tell c.bundle_releases.new.learner in
    bundle_own g.L.Link.Steps _ new c.args.bytes.now c.in-Ok.out.items known knows
    (subst (λ old. IsReleaseBundle taught (IsRecalledOrLearnt g.L.Link.Steps IsComponent) old new c.args.bytes.now c.in-Ok.out.items) (c.restart.ensures.begins tell) c.in-Ok.ensures.bundled)

pub returns-in-Err-clause-cause : goal.returns-in-Err-clause-cause
returns-in-Err-clause-cause g c =
    let tell = tells g.V.Verifier.good g.L.Link.told g.L.Link.faults g.R.RegistryStorage.told g.R.RegistryStorage.faults g.C.ContentStorage.told g.C.ContentStorage.faults g.N.NamespaceMapStorage.told g.N.NamespaceMapStorage.faults in
    record {
      refusal = c.in-Err.error;
      tells = c.told.ensures;
      cause = subst (λ old. IsBundleFault taught (IsRecalledOrLearnt g.L.Link.Steps IsComponent) (IsNeitherLearnt g.L.Link.Steps g.D.Decide.said (λ bytes error. IsRefused error bytes)) old (seen tell c.bundle_releases.new.learner) c.args.bytes.now c.in-Err.error) (c.restart.ensures.begins tell) c.in-Err.ensures.cause;
    }

pub returns-in-Err-clause-own : goal.returns-in-Err-clause-own
returns-in-Err-clause-own g c = λ known knows.
    let tell = tells g.V.Verifier.good g.L.Link.told g.L.Link.faults g.R.RegistryStorage.told g.R.RegistryStorage.faults g.C.ContentStorage.told g.C.ContentStorage.faults g.N.NamespaceMapStorage.told g.N.NamespaceMapStorage.faults in
    let new = seen tell c.bundle_releases.new.learner in
    refusal_own g.L.Link.Steps g.D.Decide.said (λ bytes error. IsRefused error bytes) _ new c.args.bytes.now known knows c.in-Err.error
    (subst (λ old. IsBundleFault taught (IsRecalledOrLearnt g.L.Link.Steps IsComponent) (IsNeitherLearnt g.L.Link.Steps g.D.Decide.said (λ bytes error. IsRefused error bytes)) old new c.args.bytes.now c.in-Err.error) (c.restart.ensures.begins tell) c.in-Err.ensures.cause)
