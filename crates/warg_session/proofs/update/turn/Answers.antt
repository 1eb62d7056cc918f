use Rattle.std.proofs.Common.{◌≡◌, List, ap, get_or, subst}
use Rattle.warg_exchange.specs.declared.exchange.Exchange.{Exchange}
use Rattle.warg_update.specs.Standing.{asker_of}
use Rattle.warg_session.specs.Recording.{transcript}
use Rattle.warg_session.specs.Turns.{IsUnfit}
use Rattle.warg_session.proofs.TakenReplies.{asks_when_taken}
use Rattle.warg_session.proofs.TurnSteps.{Replied, at_some, asks_turn, fit_turn, taken_turn, unasked_turn, unfit_turn}
use Rattle.warg_session.proofs.update.turn.Goals as goal

pub returns-in-Ok-clause-come : goal.returns-in-Ok-clause-come
returns-in-Ok-clause-come g c = λ limit start begun w.
    let a = asker_of c.args.client.now c.args.step.now in
    let now = transcript g.L.Link.told c.args.link.now in
    let next = transcript g.L.Link.told c.ask.new.link in
    let d = c.index-exchanges-place.result in
    let x = get_or c.exchanges.result.now c.in-Ok-Some.place d in
    let here : x ≡ get_or next.exchanges c.in-Ok-Some.place d = ap (λ (xs : List Exchange). get_or xs c.in-Ok-Some.place d) c.exchanges.ensures in
    fit_turn (g.V.Verifier.good c.args.verifier.now) (g.D.Decide.said c.args.decide.now c.feed.new.decide) limit a start g.L.Link.Steps begun now next c.args.step.now c.feed.new.step c.in-Ok-Some.place x d w (at_some (Replied (asker_of c.args.client.now c.args.step.now) g.L.Link.Steps (transcript g.L.Link.told c.args.link.now) c.args.step.now (transcript g.L.Link.told c.ask.new.link)) c.in-Ok-Some.field-0 c.in-Ok-Some.place c.in-Ok-Some.field-0-is c.in-Ok-Some.ensures.asked) here c.feed.ensures.stands c.feed.ensures.counted

pub returns-in-Err-feed-clause-refused : goal.returns-in-Err-feed-clause-refused
returns-in-Err-feed-clause-refused g c = λ ids limit start begun w before same.
    let a = asker_of c.args.client.now c.args.step.now in
    let now = transcript g.L.Link.told c.args.link.now in
    let next = transcript g.L.Link.told c.ask.new.link in
    let d = c.index-exchanges-place.result in
    let x = get_or c.exchanges.result.now c.in-Ok-Some.place d in
    let here : x ≡ get_or next.exchanges c.in-Ok-Some.place d = ap (λ (xs : List Exchange). get_or xs c.in-Ok-Some.place d) c.exchanges.ensures in
    let accepts = g.V.Verifier.good c.args.verifier.now in
    let answers = at_some (Replied (asker_of c.args.client.now c.args.step.now) g.L.Link.Steps (transcript g.L.Link.told c.args.link.now) c.args.step.now (transcript g.L.Link.told c.ask.new.link)) c.in-Ok-Some.field-0 c.in-Ok-Some.place c.in-Ok-Some.field-0-is c.in-Ok-Some.ensures.asked in
    let sent = asks_turn accepts (g.D.Decide.said before c.feed.new.decide) limit a start g.L.Link.Steps begun now next c.args.step.now c.in-Ok-Some.place w answers in
    let is : c.args.decide.now ≡ before = same sent.0 sent.1 in
    unfit_turn accepts (g.D.Decide.said before c.feed.new.decide) limit a start g.L.Link.Steps begun c.in-Err-feed.refusal ids now next c.args.step.now c.feed.new.step c.in-Ok-Some.place x d w (at_some (Replied (asker_of c.args.client.now c.args.step.now) g.L.Link.Steps (transcript g.L.Link.told c.args.link.now) c.args.step.now (transcript g.L.Link.told c.ask.new.link)) c.in-Ok-Some.field-0 c.in-Ok-Some.place c.in-Ok-Some.field-0-is c.in-Ok-Some.ensures.asked) here c.feed.ensures.stands c.feed.ensures.counted
    (λ who from xs stands. subst (λ state. IsUnfit c.in-Err-feed.refusal accepts (g.D.Decide.said state c.feed.new.decide) c.args.step.now x.reply) is (c.in-Err-feed.ensures.refused who from xs stands))

pub returns-in-Err-clause-refused : goal.returns-in-Err-clause-refused
returns-in-Err-clause-refused g c = λ ids limit start begun w before same.
    unasked_turn (g.V.Verifier.good c.args.verifier.now) (g.D.Decide.said before c.args.decide.now) limit (asker_of c.args.client.now c.args.step.now) start g.L.Link.Steps begun c.in-Err.refusal ids (transcript g.L.Link.told c.args.link.now) (transcript g.L.Link.told c.ask.new.link) c.args.step.now
    c.in-Err.ensures.refused w

pub returns-in-Ok-clause-unasked : goal.returns-in-Ok-clause-unasked
returns-in-Ok-clause-unasked g c = λ limit start begun w taken.
    let accepts = g.V.Verifier.good c.args.verifier.now in
    let a = asker_of c.args.client.now c.args.step.now in
    let now = transcript g.L.Link.told c.args.link.now in
    let next = transcript g.L.Link.told c.ask.new.link in
    let d = c.index-exchanges-place.result in
    let x = get_or c.exchanges.result.now c.in-Ok-Some.place d in
    let here : x ≡ get_or next.exchanges c.in-Ok-Some.place d = ap (λ (xs : List Exchange). get_or xs c.in-Ok-Some.place d) c.exchanges.ensures in
    let answers = at_some (Replied (asker_of c.args.client.now c.args.step.now) g.L.Link.Steps (transcript g.L.Link.told c.args.link.now) c.args.step.now (transcript g.L.Link.told c.ask.new.link)) c.in-Ok-Some.field-0 c.in-Ok-Some.place c.in-Ok-Some.field-0-is c.in-Ok-Some.ensures.asked in
    let none = taken_turn accepts (g.D.Decide.said c.args.decide.now c.feed.new.decide) limit a start g.L.Link.Steps begun now next c.args.step.now c.feed.new.step c.in-Ok-Some.place x d w answers here c.feed.ensures.stands taken in
    let sent = asks_turn accepts (g.D.Decide.said c.args.decide.now c.feed.new.decide) limit a start g.L.Link.Steps begun now next c.args.step.now c.in-Ok-Some.place w answers in
    (asks_when_taken a c.args.step.now sent.0 sent.1, c.feed.ensures.unasked a start w.0 w.1.stands none)
