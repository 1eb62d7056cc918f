use Rattle.std.proofs.Common.{◌≡◌, subst}
use Rattle.std.specs.Prelude.{Ok}
use Rattle.warg_exchange.specs.Replies.{checkpoint_in}
use Rattle.warg_exchange.specs.Requests.{checkpoint_data}
use Rattle.warg_reply.specs.Order.{NamesItself}
use Rattle.warg_reply.proofs.BodyLaws.{by_members, checkpoint_read}
use Rattle.warg_reply.proofs.bodies.checkpoint_value.Goals as goal

pub returns-clause-says : goal.returns-clause-says
returns-clause-says c =
    let checkpoint = c.args.checkpoint.now in
    by_members c.checkpoint_object.result (checkpoint_data checkpoint) (λ d. checkpoint_in d ≡ Ok checkpoint) c.checkpoint_object.ensures
    (checkpoint_read checkpoint c.names_itself.ensures c.names_itself-2.ensures (subst NamesItself c.hash.ensures.value c.names_itself-3.ensures) c.has_form.ensures)
