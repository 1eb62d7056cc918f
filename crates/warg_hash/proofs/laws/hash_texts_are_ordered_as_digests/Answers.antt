use Rattle.warg_hash.specs.HashLaws.{texts_in_order}
use Rattle.warg_hash.proofs.laws.hash_texts_are_ordered_as_digests.Goals as goal

pub returns : goal.returns
returns c = texts_in_order
