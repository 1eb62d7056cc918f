use Rattle.std.proofs.Common.{◌≡◌, rules}
use Rattle.std.specs.Prelude.{Ok}
use Rattle.base64.specs.Engines.{standard}
use Rattle.base64.specs.GeneralPurpose.{decode_of}
use Rattle.warg_exchange.specs.Replies.{proof_in}
use Rattle.warg_reply.specs.Bodies.{proof_data}
use Rattle.warg_reply.proofs.BodyLaws.{by_members, proof_read}
use Rattle.warg_reply.proofs.bodies.proof_value.Goals as goal

pub returns-clause-says : goal.returns-clause-says
returns-clause-says c =
    let shown = c.args.shown.now in
    let proof : decode_of standard c.as_str.result.now ≡ Ok shown.proof = search rules in
    by_members c.proof_object.result (proof_data c.as_str.result.now) (λ d. proof_in d ≡ Ok shown) c.proof_object.ensures
    (proof_read shown.proof c.as_str.result.now proof)
