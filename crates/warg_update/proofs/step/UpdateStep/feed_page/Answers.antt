use Rattle.std.proofs.Common.{◌≡◌, ◌+◌, inl, inr, List, Some, map, refl, sym, subst, arith}
use Rattle.std.proofs.lemmas.Grind.{common_steps}
use Rattle.std.proofs.lemmas.Result.{err_from_is_err_and}
use Rattle.warg_exchange.specs.Views.{page_view}
use Rattle.warg_info.specs.declared.package.PackageInfo.{PackageInfo}
use Rattle.warg_page.specs.Steps.{HaveIds}
use Rattle.warg_page.specs.Views.{package_view}
use Rattle.warg_update.specs.NotFound.{IsNoPageFault}
use Rattle.warg_update.specs.Standing.{KeepsOn}
use Rattle.warg_update.specs.declared.stage.Stage.TheVariants as stage
use Rattle.warg_update.specs.declared.step.UpdateStep.{UpdateStep}
use Rattle.warg_update.proofs.AdvanceLaws.{turned-advances, fault-at, turns-page}
use Rattle.warg_update.proofs.step.UpdateStep.feed_page.Goals as goal

pub returns-in_err-self-clause-kept : goal.returns-in_err-self-clause-kept
returns-in_err-self-clause-kept g c = record {
  registry = refl;
  stored = refl;
  hints = refl;
  sound = c.turn_page.ensures.sound;
  ready = λ r. record { operator = c.turn_page.ensures.operator r.operator; packages = c.turn_page.ensures.packages r.packages; ids = c.turn_page.ensures.ids r.ids };
}

pub returns-in_err-page-clause-cause : goal.returns-in_err-page-clause-cause
returns-in_err-page-clause-cause g c =
    let accepts = g.V.Verifier.good c.args.verifier.now in
    let said = g.D.Decide.said c.args.decide.now c.read_page.new.decide in
    let old = c.args.self.now in
    let e = c.in_err-page.field-0.0 in
    let q = err_from_is_err_and c.from_residual.result c.from_residual.ensures.1 in
    rw (q.1, q.2) (λ at_page ready. fault-at e accepts said old c.args.reply.now stage.Page (Some c.in-Some-Some.checkpoint) at_page c.in-Some-Some.is-1
    (inl (subst (λ (l : List PackageInfo). IsNoPageFault e old.hints said (map package_view l) c.args.reply.now) c.as_slice.ensures.value
    (c.in_err-page.ensures.err (subst (λ (l : List PackageInfo). HaveIds old.ids.keys l) (sym c.as_slice.ensures.value) ready.ids)))))

pub returns-in_err-self-clause-cause : goal.returns-in_err-self-clause-cause
returns-in_err-self-clause-cause g c =
    let accepts = g.V.Verifier.good c.args.verifier.now in
    let said = g.D.Decide.said c.args.decide.now c.read_page.new.decide in
    let q = err_from_is_err_and c.from_residual-in_err-self.result c.from_residual-in_err-self.ensures.1 in
    rw (q.1, q.2) (λ at_page ready. fault-at c.in_err-self.field-0.0 accepts said c.args.self.now c.args.reply.now stage.Page (Some c.in-Some-Some.checkpoint) at_page c.in-Some-Some.is-1
    (inr (record { page = page_view c.in_ok-page.page; came = c.in_ok-page.ensures.ok; fault = c.in_err-self.ensures.fault ready.ids ready.operator ready.packages })))

pub returns-clause-kept : goal.returns-clause-kept
returns-clause-kept g c = record {
  registry = refl;
  stored = refl;
  hints = refl;
  sound = c.turn_page.ensures.sound;
  ready = λ r. record { operator = c.turn_page.ensures.operator r.operator; packages = c.turn_page.ensures.packages r.packages; ids = c.turn_page.ensures.ids r.ids };
}

pub returns-clause-stands : goal.returns-clause-stands
returns-clause-stands g c at_page =
    let accepts = g.V.Verifier.good c.args.verifier.now in
    let old = c.args.self.now in
    let new : UpdateStep = record {
      stage = c.in_ok-self.field-0;
      registry = old.registry;
      operator = c.turn_page.new.operator;
      packages = c.turn_page.new.packages;
      ids = old.ids;
      stored = old.stored;
      checkpoint = old.checkpoint;
      pages_left = c.in-Some-Some.left;
      hints = old.hints;
    } in
    let keeps : KeepsOn accepts old new = record {
      registry = refl;
      stored = refl;
      hints = refl;
      sound = c.turn_page.ensures.sound;
      ready = λ r. record { operator = c.turn_page.ensures.operator r.operator; packages = c.turn_page.ensures.packages r.packages; ids = c.turn_page.ensures.ids r.ids };
    } in
    turned-advances accepts old new c.args.reply.now c.in-Some-Some.checkpoint (page_view c.in_ok-page.page) at_page c.in-Some-Some.is-1 refl keeps c.in_ok-page.ensures.ok (λ r. c.in_ok-self.ensures.turned r.ids r.operator r.packages)

pub returns-clause-turns : goal.returns-clause-turns
returns-clause-turns g c at_page =
    let less : c.in-Some-Some.left + 1 ≡ c.args.self.now.pages_left = grind (arith, common_steps) in
    turns-page c.in_ok-self.field-0 c.args.self.now.stage c.in-Some-Some.left c.args.self.now.pages_left at_page c.in_ok-self.ensures.next less
