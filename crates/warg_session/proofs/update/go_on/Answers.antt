use Rattle.std.proofs.Common.{◌∙◌, ap, arith}
use Rattle.warg_update.specs.Standing.{asker_of}
use Rattle.warg_session.specs.Recording.{transcript}
use Rattle.warg_session.proofs.TurnSteps.{answer, as_same, by_same}
use Rattle.warg_session.proofs.RunSteps.{refused}
use Rattle.warg_session.proofs.TakenReplies.{asks_when_taken}
use Rattle.warg_session.proofs.update.go_on.Goals as goal

pub loop-refusal-preserved : goal.loop-refusal-preserved
loop-refusal-preserved g c =
    let accepts = g.V.Verifier.good c.args.verifier.now in
    let a = asker_of c.args.client.now c.loop-refusal.step in
    let b = asker_of c.args.client.now c.args.step.now in
    let same = c.loop-refusal.invariant.asker c.args.client.now in
    record {
      faults = omega (arith, c.loop-refusal.invariant.faults, c.turn.ensures.never_falls);
      asker = λ client. c.turn.ensures.asker client ∙ c.loop-refusal.invariant.asker client;
      sound = λ sound. c.turn.ensures.sound (c.loop-refusal.invariant.sound sound);
      come = λ limit start begun w.
          as_same accepts start g.L.Link.Steps begun limit a b (transcript g.L.Link.told c.turn.new.link) c.turn.new.step same
          (c.in-Ok-true.ensures.come limit start begun (by_same accepts start g.L.Link.Steps begun limit a b (transcript g.L.Link.told c.loop-refusal.link) c.loop-refusal.step same (c.loop-refusal.invariant.come limit start begun w)));
      unasked = λ limit start begun w taken.
          let here = by_same accepts start g.L.Link.Steps begun limit a b (transcript g.L.Link.told c.loop-refusal.link) c.loop-refusal.step same (c.loop-refusal.invariant.come limit start begun w) in
          let last = c.in-Ok-true.ensures.unasked limit start begun here taken in
          last.1 ∙ c.loop-refusal.invariant.unasked limit start begun w last.0;
    }

pub returns-in-Ok-false-clause-over : goal.returns-in-Ok-false-clause-over
returns-in-Ok-false-clause-over g c = λ limit start begun w.
    let accepts = g.V.Verifier.good c.args.verifier.now in
    let a = asker_of c.args.client.now c.loop-refusal.step in
    let b = asker_of c.args.client.now c.args.step.now in
    let same = c.loop-refusal.invariant.asker c.args.client.now in
    let here = by_same accepts start g.L.Link.Steps begun limit a b (transcript g.L.Link.told c.loop-refusal.link) c.loop-refusal.step same (c.loop-refusal.invariant.come limit start begun w) in (
      as_same accepts start g.L.Link.Steps begun limit a b (transcript g.L.Link.told c.turn.new.link) c.turn.new.step same (c.in-Ok-false.ensures.come limit start begun here),
      c.in-Ok-false.ensures.over (ap answer c.in-Ok-false.field-0-test) limit start begun here,
    )

pub returns-in-Err-clause-refused : goal.returns-in-Err-clause-refused
returns-in-Err-clause-refused g c = λ ids limit start begun w.
    let accepts = g.V.Verifier.good c.args.verifier.now in
    let a = asker_of c.args.client.now c.loop-refusal.step in
    let b = asker_of c.args.client.now c.args.step.now in
    let same = c.loop-refusal.invariant.asker c.args.client.now in
    let here = by_same accepts start g.L.Link.Steps begun limit a b (transcript g.L.Link.told c.loop-refusal.link) c.loop-refusal.step same (c.loop-refusal.invariant.come limit start begun w) in
    let before = c.args.decide.now in
    refused accepts start g.L.Link.Steps (g.D.Decide.said before c.turn.new.decide) limit a b c.in-Err.refusal ids begun (transcript g.L.Link.told c.turn.new.link) same (c.in-Err.ensures.refused ids limit start begun here before
    (λ request is. c.loop-refusal.invariant.unasked limit start begun w (asks_when_taken a c.loop-refusal.step request is)))

pub returns-in-Ok-false-clause-unasked : goal.returns-in-Ok-false-clause-unasked
returns-in-Ok-false-clause-unasked g c = λ limit start begun w taken.
    let accepts = g.V.Verifier.good c.args.verifier.now in
    let a = asker_of c.args.client.now c.loop-refusal.step in
    let b = asker_of c.args.client.now c.args.step.now in
    let same = c.loop-refusal.invariant.asker c.args.client.now in
    let here = by_same accepts start g.L.Link.Steps begun limit a b (transcript g.L.Link.told c.loop-refusal.link) c.loop-refusal.step same (c.loop-refusal.invariant.come limit start begun w) in
    let last = c.in-Ok-false.ensures.unasked limit start begun here taken in
    last.1 ∙ c.loop-refusal.invariant.unasked limit start begun w last.0
