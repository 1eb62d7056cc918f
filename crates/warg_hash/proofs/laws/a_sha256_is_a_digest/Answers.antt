use Rattle.warg_hash.specs.ByteLaws.{sha256_is_digest}
use Rattle.warg_hash.proofs.laws.a_sha256_is_a_digest.Goals as goal

pub returns : goal.returns
returns c = sha256_is_digest
