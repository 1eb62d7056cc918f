use Rattle.std.proofs.Common.{subst}
use Rattle.compose_left.specs.Numbers.{IsReached}
use Rattle.compose_left.proofs.NotedLaws.{number_known, number_ended, both_ok}
use Rattle.compose_left.proofs.finding.number_reached.Goals as goal

pub returns-in-Known-clause-numbered : goal.returns-in-Known-clause-numbered
returns-in-Known-clause-numbered c = λ w numbers o same a r. number_known w c.args.table.now.items numbers o c.in-Known.number a (subst (IsReached w numbers o) c.in-Known.is r)

pub returns-in-Ends-clause-numbered : goal.returns-in-Ends-clause-numbered
returns-in-Ends-clause-numbered c = λ w numbers o same a r.
    both_ok c.number_of.result _ _ _ c.number_of.ensures.added c.number_of.ensures.number
    (λ k added number. number_ended w c.args.instances c.args.table.now.items c.number_of.new.table.items c.in-Ends.origin o k same (subst (IsReached w numbers o) c.in-Ends.is r) added number)
