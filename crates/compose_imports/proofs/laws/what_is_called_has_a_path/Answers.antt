use Rattle.compose_imports.proofs.CallLaws.{called_with_a_path}
use Rattle.compose_imports.proofs.laws.what_is_called_has_a_path.Goals as goal

pub returns : goal.returns
returns c = called_with_a_path
