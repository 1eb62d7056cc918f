use Rattle.compose_image.proofs.ImportedLaws.{imported_as_meant}
use Rattle.compose_image.proofs.laws.what_is_written_imports_these.Goals as goal

pub returns : goal.returns
returns c = imported_as_meant
