use Rattle.compose_left.proofs.ImportLaws.{told}
use Rattle.compose_left.proofs.laws.numbers_tell_left_imports.Goals as goal

pub returns : goal.returns
returns c = told
