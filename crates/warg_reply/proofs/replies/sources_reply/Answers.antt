use Rattle.std.proofs.Common.{◌≤◌, ◌∷◌, [], arith}
use Rattle.serde_json.specs.Data.{depth}
use Rattle.serde_json.specs.Read.{max_depth}
use Rattle.serde_json.specs.View.{view}
use Rattle.warg_exchange.specs.Replies.{sources_in}
use Rattle.warg_exchange.specs.declared.content.ContentSource.TheVariants.{HttpGet}
use Rattle.warg_reply.proofs.ReplyLaws.{found}
use Rattle.warg_reply.proofs.replies.sources_reply.Goals as goal

pub returns : goal.returns
returns c =
    let body = view c.in_ok-body.body in
    let nests : depth body ≤ max_depth = omega (arith, c.in_ok-body.ensures.nests) in
    found sources_in c.json_reply.result body ((c.args.digest.now, HttpGet c.args.url.now ∷ []) ∷ []) c.json_reply.ensures.status c.json_reply.ensures.body nests c.in_ok-body.ensures.says
