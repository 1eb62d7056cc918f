use Rattle.std.proofs.lemmas.Result.{IfOk-weaker}
use Rattle.warg_learn.specs.Recalled.{Learnt}
use Rattle.warg_learn.proofs.ways.KeptFirstLearnLearner.learn_content.Goals as goal

pub returns-clause-learnt : goal.returns-clause-learnt
returns-clause-learnt g c = IfOk-weaker c.load_content.result _ _ (λ content h. (Learnt h.0, h.1, h.2)) c.load_content.ensures.learnt
