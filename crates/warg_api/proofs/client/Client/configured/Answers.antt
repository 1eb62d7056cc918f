use Rattle.std.proofs.Common.{◌≡◌, Ok, Err, Some, rules, ap}
use Rattle.warg_exchange.specs.Replies.{well_known_says}
use Rattle.warg_api.proofs.ConfigLaws.{no_config}
use Rattle.warg_api.proofs.client.Client.configured.Goals as goal

pub returns-clause-err : goal.returns-clause-err
returns-clause-err c =
    let text = c.as_str.result.now in
    let said : well_known_says c.args.reply.now ≡ Ok (Some text) = search rules in
    let new = c.in-Err.ensures in
    rw c.from.ensures
    (no_config c.args.self.now.url c.args.reply.now text said c.in-Err.error (λ is. new.not_url (ap Err is)) (λ is. new.not_https (ap Err is)) (λ is. new.insecure (ap Err is)))
