use Rattle.std.proofs.Common.{◌≡◌}
use Rattle.std.proofs.lemmas.Result.{on_ok_weaker}
use Rattle.warg_log.specs.Rules.{Accepts}
use Rattle.warg_update.specs.Standing.{Advances}
use Rattle.warg_update.specs.declared.stage.Stage.TheVariants as stage
use Rattle.warg_update.proofs.step.UpdateStep.take_reply.Goals as goal

pub returns-in-Checkpoint-clause-kept : goal.returns-in-Checkpoint-clause-kept
returns-in-Checkpoint-clause-kept g c = c.feed_checkpoint.ensures.kept (g.V.Verifier.good c.args.verifier.now)

pub returns-in-Checkpoint-clause-stands : goal.returns-in-Checkpoint-clause-stands
returns-in-Checkpoint-clause-stands g c =
    let accepts = g.V.Verifier.good c.args.verifier.now in
    let old = c.args.self.now in
    let new = c.feed_checkpoint.new.self in
    on_ok_weaker {P = (known : Accepts) → old.stage ≡ stage.Checkpoint → Advances known old c.args.reply.now new} {Q = Advances accepts old c.args.reply.now new} c.feed_checkpoint.result
    (λ stands. stands accepts c.in-Checkpoint.is) c.feed_checkpoint.ensures.stands

pub returns-in-Page-clause-stands : goal.returns-in-Page-clause-stands
returns-in-Page-clause-stands g c =
    let accepts = g.V.Verifier.good c.args.verifier.now in
    let old = c.args.self.now in
    let new = c.feed_page.new.self in
    on_ok_weaker {P = old.stage ≡ stage.Page → Advances accepts old c.args.reply.now new} {Q = Advances accepts old c.args.reply.now new} c.feed_page.result
    (λ stands. stands c.in-Page.is) c.feed_page.ensures.stands

pub returns-in-Inclusion-clause-kept : goal.returns-in-Inclusion-clause-kept
returns-in-Inclusion-clause-kept g c = c.feed_inclusion.ensures.kept (g.V.Verifier.good c.args.verifier.now)

pub returns-in-Inclusion-clause-stands : goal.returns-in-Inclusion-clause-stands
returns-in-Inclusion-clause-stands g c =
    let accepts = g.V.Verifier.good c.args.verifier.now in
    let old = c.args.self.now in
    let new = c.feed_inclusion.new.self in
    on_ok_weaker {P = (known : Accepts) → old.stage ≡ stage.Inclusion → Advances known old c.args.reply.now new} {Q = Advances accepts old c.args.reply.now new} c.feed_inclusion.result
    (λ stands. stands accepts c.in-Inclusion.is) c.feed_inclusion.ensures.stands

pub returns-in-Consistency-clause-kept : goal.returns-in-Consistency-clause-kept
returns-in-Consistency-clause-kept g c = c.feed_consistency.ensures.kept (g.V.Verifier.good c.args.verifier.now)

pub returns-in-Consistency-clause-stands : goal.returns-in-Consistency-clause-stands
returns-in-Consistency-clause-stands g c =
    let accepts = g.V.Verifier.good c.args.verifier.now in
    let old = c.args.self.now in
    let new = c.feed_consistency.new.self in
    on_ok_weaker {P = (known : Accepts) → old.stage ≡ stage.Consistency c.in-Consistency.from → Advances known old c.args.reply.now new} {Q = Advances accepts old c.args.reply.now new} c.feed_consistency.result
    (λ stands. stands accepts c.in-Consistency.is) c.feed_consistency.ensures.stands
