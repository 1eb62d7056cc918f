use Rattle.warg_names.specs.TextLaws.{versioned_text-again}
use Rattle.warg_names.proofs.laws.a_versioned_package_reads_back.Goals as goal

pub returns : goal.returns
returns c = versioned_text-again
