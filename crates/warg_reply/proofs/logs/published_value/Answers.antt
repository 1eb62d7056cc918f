use Rattle.std.proofs.Common.{◌≡◌, rules}
use Rattle.std.specs.Prelude.{Ok}
use Rattle.base64.specs.Engines.{standard}
use Rattle.base64.specs.GeneralPurpose.{decode_of}
use Rattle.warg_exchange.specs.Replies.{published_in}
use Rattle.warg_reply.specs.Bodies.{published_data}
use Rattle.warg_reply.proofs.BodyLaws.{by_members}
use Rattle.warg_reply.proofs.RecordLaws.{published_read}
use Rattle.warg_reply.proofs.logs.published_value.Goals as goal

pub returns-clause-says : goal.returns-clause-says
returns-clause-says c =
    let published = c.args.published.now in
    let contents : decode_of standard c.as_str.result.now ≡ Ok published.content_bytes = search rules in
    by_members c.published_object.result (published_data c.as_str.result.now published) (λ d. published_in d ≡ Ok published) c.published_object.ensures
    (published_read published c.as_str.result.now contents)
