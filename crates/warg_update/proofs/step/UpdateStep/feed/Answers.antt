use Rattle.std.proofs.Common.{◌∙◌}
use Rattle.warg_exchange.specs.declared.exchange.Exchange.{Exchange}
use Rattle.warg_update.specs.AskedLaws.{asked-push}
use Rattle.warg_update.proofs.StandingLaws.{asks-at}
use Rattle.warg_update.proofs.step.UpdateStep.feed.Goals as goal

pub returns-in-Err-clause-stands : goal.returns-in-Err-clause-stands
returns-in-Err-clause-stands g c a start xs request asks stands =
    let accepts = g.V.Verifier.good c.args.verifier.now in
    let x : Exchange = record { request = request; reply = c.args.reply.now } in
    let ready = c.take_reply.ensures.kept.ready stands.ready in
    record {
      ready = record { operator = ready.operator; packages = ready.packages; ids = ready.ids };
      stored = c.take_reply.ensures.kept.stored ∙ stands.stored;
      asked = asked-push a start xs x stands.asked (asks-at accepts a start c.args.self.now xs request stands asks);
      reached = tt;
    }
