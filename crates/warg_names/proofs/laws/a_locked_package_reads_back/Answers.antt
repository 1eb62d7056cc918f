use Rattle.warg_names.specs.TextLaws.{locked_text-again}
use Rattle.warg_names.proofs.laws.a_locked_package_reads_back.Goals as goal

pub returns : goal.returns
returns c = locked_text-again
