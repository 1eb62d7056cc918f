use Rattle.std.proofs.Common.{◌≡◌, ◌∷◌, []}
use Rattle.std.specs.Prelude.{Ok}
use Rattle.warg_exchange.specs.Replies.{sources_in}
use Rattle.warg_exchange.specs.declared.content.ContentSource.TheVariants.{HttpGet}
use Rattle.warg_reply.specs.Bodies.{sources_data}
use Rattle.warg_reply.proofs.BodyLaws.{by_members, sources_read}
use Rattle.warg_reply.proofs.bodies.sources_value.Goals as goal

pub returns-clause-says : goal.returns-clause-says
returns-clause-says c =
    let digest = c.args.digest.now in
    let url = c.args.url.now in
    by_members c.sources_object.result (sources_data digest url) (λ d. sources_in d ≡ Ok ((digest, HttpGet url ∷ []) ∷ [])) c.sources_object.ensures
    (sources_read digest url c.names_itself.ensures)
