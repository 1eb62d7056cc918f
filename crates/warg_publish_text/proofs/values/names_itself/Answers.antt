use Rattle.std.proofs.Common.{refl}
use Rattle.warg_hash.specs.Hash.{hash_text}
use Rattle.warg_hash.specs.HashLaws.{digest_of-again}
use Rattle.warg_publish_text.proofs.values.names_itself.Goals as goal

pub returns : goal.returns
returns c = digest_of-again (hash_text c.args.hash.now) c.args.hash.now (c.bytes-bytes.ensures.form, refl)
