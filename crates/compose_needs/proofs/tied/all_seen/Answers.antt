use Rattle.std.proofs.Common.{sym, ◌∙◌}
use Rattle.compose_needs.proofs.SeenLaws.{asked_fails, asked_passes}
use Rattle.compose_needs.proofs.tied.all_seen.Goals as goal

pub returns-then-not-contains : goal.returns-then-not-contains
returns-then-not-contains c = λ s h.
    asked_fails s c.args.asked.now c.loop-thing.thing-index _ _ c.loop-thing-test.true (sym (h _) ∙ sym c.contains.ensures ∙ c.if-not-contains.true) (c.loop-thing.invariant s h)

pub loop-thing-preserved : goal.loop-thing-preserved
loop-thing-preserved c = λ s h.
    asked_passes s c.args.asked.now c.loop-thing.thing-index _ _ c.loop-thing-test.true (sym (h _) ∙ sym c.contains.ensures ∙ c.if-not-contains.false) (c.loop-thing.invariant s h)
