use Rattle.std.proofs.Common.{refl}
use Rattle.warg_update.specs.Standing.{KeepsOn}
use Rattle.warg_update.specs.declared.stage.Stage.TheVariants as stage
use Rattle.warg_update.specs.declared.step.UpdateStep.{UpdateStep}
use Rattle.warg_update.proofs.AdvanceLaws.{continued-advances}
use Rattle.warg_update.proofs.step.UpdateStep.feed_consistency.Goals as goal

pub returns-clause-stands : goal.returns-clause-stands
returns-clause-stands c accepts at_stage =
    let old = c.args.self.now in
    let new : UpdateStep = record {
      stage = stage.Proved;
      registry = old.registry;
      operator = old.operator;
      packages = old.packages;
      ids = old.ids;
      stored = old.stored;
      checkpoint = old.checkpoint;
      pages_left = old.pages_left;
      hints = old.hints;
    } in
    let keeps : KeepsOn accepts old new = record { registry = refl; stored = refl; hints = refl; sound = λ sound. sound; ready = λ r. record { operator = r.operator; packages = r.packages; ids = r.ids } } in
    continued-advances accepts old new c.args.reply.now c.args.old.now c.in-Some.checkpoint at_stage c.in-Some.is refl refl refl keeps c.in_ok-show_continuation.ensures.ok
