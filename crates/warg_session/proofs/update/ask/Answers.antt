use Rattle.std.proofs.Common.{inr}
use Rattle.warg_session.proofs.TurnSteps.{at_some}
use Rattle.warg_session.proofs.update.ask.Goals as goal

pub returns-in-Err-send-clause-refused : goal.returns-in-Err-send-clause-refused
returns-in-Err-send-clause-refused g c = inr (record {
  request = c.in-Ok-Some.request;
  asks = λ accepts start xs stands. (at_some _ c.in-Ok-Some.field-0 c.in-Ok-Some.request c.in-Ok-Some.field-0-is (c.in-Ok-Some.ensures.asks accepts start xs stands)).0;
  asked = λ accepts start xs stands. (at_some _ c.in-Ok-Some.field-0 c.in-Ok-Some.request c.in-Ok-Some.field-0-is (c.in-Ok-Some.ensures.asks accepts start xs stands)).1;
  unanswered = c.in-Err-send.ensures.refused;
})
