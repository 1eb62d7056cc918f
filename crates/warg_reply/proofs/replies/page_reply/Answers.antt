use Rattle.std.proofs.Common.{◌≤◌, arith}
use Rattle.serde_json.specs.Data.{depth}
use Rattle.serde_json.specs.Read.{max_depth}
use Rattle.serde_json.specs.View.{view}
use Rattle.warg_exchange.specs.Replies.{page_in}
use Rattle.warg_reply.specs.Order.{ascending}
use Rattle.warg_reply.proofs.ReplyLaws.{found}
use Rattle.warg_reply.proofs.replies.page_reply.Goals as goal

pub returns-clause-says : goal.returns-clause-says
returns-clause-says c =
    let body = view c.in_ok-body.body in
    let nests : depth body ≤ max_depth = omega (arith, c.in_ok-body.ensures.nests) in
    found page_in c.json_reply.result body (record { more = c.args.page.now.more; operator = c.args.page.now.operator; packages = ascending c.args.page.now.packages.entries }) c.json_reply.ensures.status c.json_reply.ensures.body nests c.in_ok-body.ensures.says
