use Rattle.warg_body.specs.ContentLaws.{whole}
use Rattle.warg_body.proofs.laws.a_content_without_errors_has_its_digest.Goals as goal

pub returns : goal.returns
returns g c = whole (g.S.Stream.yields c.args.source.now)
