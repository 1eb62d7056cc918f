use Rattle.std.proofs.Common.{◌≡◌, rules}
use Rattle.std.specs.Prelude.{Ok}
use Rattle.base64.specs.Engines.{standard}
use Rattle.base64.specs.GeneralPurpose.{decode_of}
use Rattle.warg_exchange.specs.Replies.{bundles_in}
use Rattle.warg_reply.specs.Bodies.{bundles_data}
use Rattle.warg_reply.proofs.BodyLaws.{by_members, bundles_read}
use Rattle.warg_reply.proofs.bodies.bundles_value.Goals as goal

pub returns-clause-says : goal.returns-clause-says
returns-clause-says c =
    let bundles = c.args.bundles.now in
    let log : decode_of standard c.as_str.result.now ≡ Ok bundles.log = search rules in
    let map : decode_of standard c.as_str-2.result.now ≡ Ok bundles.map = search rules in
    by_members c.bundles_object.result (bundles_data c.as_str.result.now c.as_str-2.result.now) (λ d. bundles_in d ≡ Ok bundles) c.bundles_object.ensures
    (bundles_read bundles.log bundles.map c.as_str.result.now c.as_str-2.result.now log map)
