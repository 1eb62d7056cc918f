use Rattle.std.proofs.Common.{Ok, ap, inr, ◌∙◌}
use Rattle.std.proofs.lemmas.Result.{IfErr-weaker, IfOk-weaker}
use Rattle.warg_plan.specs.Known.{with_log}
use Rattle.warg_assemble.specs.Parts.{releases_in}
use Rattle.warg_fetch.specs.StoredLaws.{if_some}
use Rattle.warg_learn.specs.Recalled.{Learnt, Recalled}
use Rattle.warg_learn.proofs.ways.KeptFirstLearnLearner.learn_log.Goals as goal

pub returns-in-Some-clause-learnt : goal.returns-in-Some-clause-learnt
returns-in-Some-clause-learnt g c =
    let h = if_some _ _ c.in-Some.releases c.in-Some.is c.in_ok-releases.ensures.recalled in
    (Recalled h.0, λ facts. ap (λ n. with_log facts n (releases_in h.0.log)) h.1 ∙ ap (with_log facts c.args.name.now) h.2, (h.1, h.3))

pub returns-in-None-clause-learnt : goal.returns-in-None-clause-learnt
returns-in-None-clause-learnt g c =
    IfOk-weaker c.update_log.result _ _ (λ releases h. (
      Learnt h.0,
      h.1,
      record {
        between = _;
        unkept = c.in_ok-releases.ensures.unkept (ap (λ o. Ok o) c.in-None.is);
        learns = h.2;
      },
    )) c.update_log.ensures.learnt

pub returns-in-None-clause-refused : goal.returns-in-None-clause-refused
returns-in-None-clause-refused g c =
    IfErr-weaker c.update_log.result _ _ (λ e h. inr (record {
      between = _;
      unkept = c.in_ok-releases.ensures.unkept (ap (λ o. Ok o) c.in-None.is);
      refused = h;
    })) c.update_log.ensures.refused
