use Rattle.std.proofs.Common.{◌≤◌, arith}
use Rattle.serde_json.specs.Data.{depth}
use Rattle.serde_json.specs.Read.{max_depth}
use Rattle.serde_json.specs.View.{view}
use Rattle.warg_reply.proofs.ReplyLaws.{refused}
use Rattle.warg_reply.proofs.replies.refusal_reply.Goals as goal

pub returns-clause-refuses : goal.returns-clause-refuses
returns-clause-refuses c =
    let body = view c.in_ok-body.body in
    let nests : depth body ≤ max_depth = omega (arith, c.in_ok-body.ensures.nests) in
    refused c.json_reply.result body c.args.error.now c.json_reply.ensures.body nests c.in_ok-body.ensures.says
