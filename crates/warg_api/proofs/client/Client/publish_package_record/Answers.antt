use Rattle.std.specs.Prelude.{option_copied}
use Rattle.warg_api.specs.Asking.{asker}
use Rattle.warg_api.proofs.client.Client.publish_package_record.Goals as goal

pub returns-clause-ok : goal.returns-clause-ok
returns-clause-ok g c = c.call.ensures.ok _ c.publish_request-request.ensures.value

pub returns-clause-err : goal.returns-clause-err
returns-clause-err g c =
    let a = asker c.args.self.now (option_copied c.args.registry) in
    c.call.ensures.err a _ c.publish_request-request.ensures.value c.publish_request-request.ensures.bad_header
