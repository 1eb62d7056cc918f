use Rattle.std.proofs.Common.{◌≡◌, false, codes, ◌∙◌, ap}
use Rattle.serde_json.specs.View.{view}
use Rattle.serde_json.specs.Written.{has_float}
use Rattle.warg_exchange.specs.Requests.{post_request}
use Rattle.warg_request.specs.Asking.{asker_view}
use Rattle.warg_request.proofs.FloatLaws.{logs_plain}
use Rattle.warg_request.proofs.asker.Asker.logs_request.Goals as goal

pub returns-clause-value : goal.returns-clause-value
returns-clause-value c =
    let plain : has_float (view c.in_ok-body.body) ≡ false = rw c.in_ok-body.ensures (logs_plain c.args.request.now.log_length c.args.request.now.operator c.args.request.now.packages.entries) in
    c.in_ok-asked.ensures.value plain ∙ ap (λ d. post_request (asker_view c.args.self.now) (codes "v1/fetch/logs") d) c.in_ok-body.ensures
