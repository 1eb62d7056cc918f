use Rattle.compose_graph.specs.Listed.{graph_of}
use Rattle.compose_files.specs.Needs.{need_of}
use Rattle.compose_files.proofs.ChoiceLaws.{unjudged}
use Rattle.compose_files.proofs.FitLaws.{judged}
use Rattle.compose_files.proofs.choice.fits.Goals as goal

pub returns-in-Ok-clause-judged : goal.returns-in-Ok-clause-judged
returns-in-Ok-clause-judged c = judged (graph_of c.args.graph.now) c.args.source.0 _ (need_of c.args.need.now) _ c.in-Ok.ensures.fits

pub returns-in-NotCompatible-clause-judged : goal.returns-in-NotCompatible-clause-judged
returns-in-NotCompatible-clause-judged c =
    judged (graph_of c.args.graph.now) c.args.source.0 _ (need_of c.args.need.now) _ (rw c.in-NotCompatible.is at c.in-Err.ensures.refused)

pub returns-in_default : goal.returns-in_default
returns-in_default c = record {
  judged = tt;
  refused = unjudged (graph_of c.args.graph.now) c.args.source.0 _ (need_of c.args.need.now) c.in-Err.error c.in_default.not-NotCompatible c.in_default.not-SelfConnection
      c.in-Err.ensures.refused c.refused.result c.refused.ensures;
}
