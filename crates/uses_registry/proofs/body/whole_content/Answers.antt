use Rattle.std.proofs.Common.{◌∙◌, ap, map}
use Rattle.std.specs.Prelude.{None, Ok}
use Rattle.sha2.specs.Sha256.{sha256}
use Rattle.uses_registry.proofs.body.whole_content.Goals as goal

pub returns : goal.returns
returns g c =
    let read = c.in_ok-content.ensures in
    let checked = c.new-stream.ensures.gives (map Ok read.0) None read.2 in
    ap sha256 read.1 ∙ c.a_content_without_errors_has_its_digest.ensures c.args.digest read.0 checked
