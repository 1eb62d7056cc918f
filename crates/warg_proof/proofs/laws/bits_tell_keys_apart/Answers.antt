use Rattle.warg_proof.proofs.MapLaws.{same_key}
use Rattle.warg_proof.proofs.laws.bits_tell_keys_apart.Goals as goal

pub returns : goal.returns
returns c = λ key other is_key is_other same. same_key other key is_other is_key same
