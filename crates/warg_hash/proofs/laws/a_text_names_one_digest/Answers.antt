use Rattle.warg_hash.specs.HashLaws.{digest_of-again, digest_of-sound, one_digest}
use Rattle.warg_hash.proofs.laws.a_text_names_one_digest.Goals as goal

pub returns-clause-exact : goal.returns-clause-exact
returns-clause-exact c = λ text digest. (digest_of-sound text digest, digest_of-again text digest)

pub returns-clause-one : goal.returns-clause-one
returns-clause-one c = one_digest
