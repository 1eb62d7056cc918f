use Rattle.std.proofs.Common.{◌≤◌, arith}
use Rattle.serde_json.specs.Data.{depth}
use Rattle.serde_json.specs.Read.{max_depth}
use Rattle.serde_json.specs.View.{view}
use Rattle.warg_exchange.specs.Replies.{bundles_in}
use Rattle.warg_reply.proofs.ReplyLaws.{found}
use Rattle.warg_reply.proofs.replies.inclusion_reply.Goals as goal

pub returns : goal.returns
returns c =
    let body = view c.in_ok-body.body in
    let nests : depth body ≤ max_depth = omega (arith, c.in_ok-body.ensures.nests) in
    found bundles_in c.json_reply.result body c.args.bundles.now c.json_reply.ensures.status c.json_reply.ensures.body nests c.in_ok-body.ensures.says
