use Rattle.warg_session.proofs.TurnSteps.{both}
use Rattle.warg_session.proofs.update.next_request.Goals as goal

pub returns-clause-asks : goal.returns-clause-asks
returns-clause-asks c = λ accepts start xs stands. both _ _ _ (c.in_ok-next_request.ensures.asks accepts start xs stands) (c.in_ok-next_request.ensures.exact accepts _ start xs stands)
