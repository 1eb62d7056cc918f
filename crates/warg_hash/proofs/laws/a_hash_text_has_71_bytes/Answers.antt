use Rattle.warg_hash.specs.HashLaws.{length-hash_text}
use Rattle.warg_hash.proofs.laws.a_hash_text_has_71_bytes.Goals as goal

pub returns : goal.returns
returns c = λ digest is. length-hash_text digest is.0
