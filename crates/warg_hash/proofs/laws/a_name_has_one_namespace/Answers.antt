use Rattle.warg_hash.specs.NameLaws.{labels_of}
use Rattle.warg_hash.proofs.laws.a_name_has_one_namespace.Goals as goal

pub returns : goal.returns
returns c = labels_of
