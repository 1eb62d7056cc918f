use Rattle.std.proofs.Common.{◌≡◌, List, ℕ, Some, Option, sym, ◌∙◌, ap, subst, map}
use Rattle.warg_exchange.specs.declared.exchange.Request.{Request}
use Rattle.warg_exchange.specs.Requests.{logs_request}
use Rattle.warg_request.specs.Asking.{asker_view}
use Rattle.warg_info.specs.declared.package.PackageInfo.{PackageInfo}
use Rattle.warg_info.specs.Info.{operator_log}
use Rattle.warg_info.specs.Kept.{last_token}
use Rattle.warg_page.specs.Logs.{tokens_of}
use Rattle.warg_update.specs.Proved.{page_request}
use Rattle.warg_update.specs.Standing.{logs_of}
use Rattle.warg_page.specs.Steps.{id_of, AreDistinct}
use Rattle.warg_page.specs.Views.{package_view}
use Rattle.warg_update.specs.declared.stage.Stage.TheVariants as stage
use Rattle.warg_update.proofs.StandingLaws.{request-at, page-some}
use Rattle.warg_update.proofs.step.UpdateStep.ask_page.Goals as goal

pub returns-clause-exact : goal.returns-clause-exact
returns-clause-exact c at_page ids =
    let step = c.args.self.now in
    let a = asker_view c.args.asker.now in
    let ck = c.in-Some.checkpoint in
    let n = ck.contents.log_length in
    let logs = c.in_ok-logs.logs in
    let operator = last_token (operator_log step.operator) in
    let listed : List PackageInfo = c.as_slice.result.now in
    let distinct : AreDistinct (map id_of listed) = subst (λ (l : List PackageInfo). AreDistinct (map id_of l)) (sym c.as_slice.ensures.value) (subst AreDistinct ids.in_order ids.distinct) in
    let packages : logs.packages.entries ≡ tokens_of (map package_view step.packages.items) = c.in_ok-logs.ensures.packages distinct ∙ ap (λ (l : List PackageInfo). tokens_of (map package_view l)) c.as_slice.ensures.value in
    let is : c.in_ok-request.request ≡ page_request a n (logs_of step) =
    c.in_ok-request.ensures.value ∙ ap (λ (m : ℕ). logs_request a m logs.operator logs.packages.entries) c.in_ok-logs.ensures.log_length
    ∙ ap (λ (t : Option (List ℕ)). logs_request a n t logs.packages.entries) c.in_ok-logs.ensures.operator
    ∙ ap (λ (l : List (List ℕ × Option (List ℕ))). logs_request a n operator l) packages in
    ap (λ (r : Request). Some r) is ∙ page-some step.pages_left (page_request a n (logs_of step)) c.if-self-eq0.false
    ∙ sym (request-at step.stage stage.Page step.checkpoint (Some ck) step.pages_left a (logs_of step) at_page c.in-Some.is)
