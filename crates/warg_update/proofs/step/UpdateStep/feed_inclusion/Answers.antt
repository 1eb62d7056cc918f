use Rattle.std.proofs.Common.{List, Option, refl, sym, subst}
use Rattle.warg_exchange.specs.declared.checkpoint.SignedCheckpoint.{SignedCheckpoint}
use Rattle.warg_info.specs.declared.package.PackageInfo.{PackageInfo}
use Rattle.warg_update.specs.Stages.{AreShown, FollowsHeads}
use Rattle.warg_update.specs.Standing.{KeepsOn}
use Rattle.warg_page.specs.Steps.{AreGood}
use Rattle.warg_page.specs.Views.{logs_view}
use Rattle.warg_update.specs.declared.step.UpdateStep.{UpdateStep}
use Rattle.warg_update.proofs.AdvanceLaws.{heads-advances, sound-of}
use Rattle.warg_update.proofs.step.UpdateStep.feed_inclusion.Goals as goal

pub returns-clause-stands : goal.returns-clause-stands
returns-clause-stands c accepts at_stage =
    let old = c.args.self.now in
    let contents = c.in-Some.checkpoint.contents in
    let new : UpdateStep = record {
      stage = c.in_ok-self.field-0;
      registry = old.registry;
      operator = old.operator;
      packages = old.packages;
      ids = old.ids;
      stored = old.stored;
      checkpoint = old.checkpoint;
      pages_left = old.pages_left;
      hints = old.hints;
    } in
    let keeps : KeepsOn accepts old new = record { registry = refl; stored = refl; hints = refl; sound = λ sound. sound; ready = λ r. record { operator = r.operator; packages = r.packages; ids = r.ids } } in
    heads-advances accepts old new c.args.reply.now c.in-Some.checkpoint at_stage c.in-Some.is refl refl keeps
    (λ r. subst (λ (l : List PackageInfo). AreShown contents (logs_view old.operator l) c.args.reply.now) c.as_slice.ensures.value
    (c.in_ok-show_heads.ensures.ok (sound-of accepts old.operator c.as_slice.result.now r.operator (subst (λ (l : List PackageInfo). AreGood accepts l) (sym c.as_slice.ensures.value) r.packages))))
    (subst (λ (s : Option SignedCheckpoint). FollowsHeads s contents c.in_ok-self.field-0) c.as_ref.ensures.value c.in_ok-self.ensures.ok)
