use Rattle.std.proofs.Common.{refl, inr}
use Rattle.std.proofs.lemmas.Result.{IfErr-weaker, IfOk-weaker}
use Rattle.warg_learn.specs.RecalledLaws.{known_still}
use Rattle.warg_learn.proofs.RecalledSteps.{asks_by, unkept_by}
use Rattle.warg_learn.proofs.SeenLaws.{at_most}
use Rattle.warg_learn.proofs.learner.Learner.package.Goals as goal

pub returns-clause-found : goal.returns-clause-found
returns-clause-found g c =
    let kept = c.load_kept.ensures in
    let asks = asks_by _ _ refl refl refl kept.kept refl kept.names_kept refl refl (at_most refl) kept.registries_never_fall (at_most refl) kept.names_never_fall in
    IfOk-weaker c.fetch_package.result _ _ (λ info h. inr (record {
      between = _;
      unkept = unkept_by _ _ _ c.in_ok-kept.kept.info asks refl (λ known k. c.in_ok-kept.ensures.found known k.stores.registries k.stores.namespaces) c.in-None.is;
      updated = h;
    })) c.fetch_package.ensures.updated

pub returns-clause-refused : goal.returns-clause-refused
returns-clause-refused g c =
    let kept = c.load_kept.ensures in
    let asks = asks_by _ _ refl refl refl kept.kept refl kept.names_kept refl refl (at_most refl) kept.registries_never_fall (at_most refl) kept.names_never_fall in
    IfErr-weaker c.fetch_package.result _ _ (λ e h. inr (record {
      between = _;
      unkept = unkept_by _ _ _ c.in_ok-kept.kept.info asks refl (λ known k. c.in_ok-kept.ensures.found known k.stores.registries k.stores.namespaces) c.in-None.is;
      refused = h;
    })) c.fetch_package.ensures.refused

pub returns-clause-own : goal.returns-clause-own
returns-clause-own g c = λ known k.
    let kept = c.load_kept.ensures in
    c.fetch_package.ensures.own known (known_still _ _ known
    (asks_by _ _ refl refl refl kept.kept refl kept.names_kept refl refl (at_most refl) kept.registries_never_fall (at_most refl) kept.names_never_fall)
    refl k)
