use Rattle.std.proofs.Common.{◌≡◌, List, Some}
use Rattle.std.proofs.lemmas.Result.{IfErr-weaker}
use Rattle.warg_exchange.specs.declared.exchange.Exchange.{Exchange}
use Rattle.warg_exchange.specs.declared.exchange.Request.{Request}
use Rattle.warg_exchange.specs.Requests.{Asker}
use Rattle.warg_ledger.specs.Honest.{AreHonest, IsHonestNext}
use Rattle.warg_ledger.specs.Registry.{Registry, IsRegistry}
use Rattle.warg_update.specs.FeedFaults.{IsFeedFault}
use Rattle.warg_update.specs.Proved.{Start}
use Rattle.warg_update.specs.Standing.{request_at, Stands}
use Rattle.warg_update.specs.declared.error.UpdateError.TheVariants as update
use Rattle.uses_registry.proofs.ledger.feed_honest_reply.Goals as goal

pub returns : goal.returns
returns g c =
    let accepts = g.V.Verifier.good c.args.verifier.now in
    let said = g.D.Decide.said c.args.decide.now c.feed.new.decide in
    let step = c.args.step.now in
    let reply = c.args.reply.now in
    IfErr-weaker c.feed.result (λ e. (a : Asker) (start : Start) (xs : List Exchange) → Stands accepts a start step xs → IsFeedFault e accepts said step reply)
    (λ e. (w : Registry) (a : Asker) (start : Start) (xs : List Exchange) (request : Request) → IsRegistry accepts w → AreHonest accepts w a start xs → IsHonestNext accepts w a start xs reply → Stands accepts a start step xs
    → request_at a step ≡ Some request → e ≡ update.Memory)
    (λ e cause w a start xs request registry honest next stands asks. c.honest_replies_are_taken.ensures accepts w a start xs step request said reply e registry honest next stands asks (cause a start xs stands)) c.feed.ensures.cause
