use Rattle.warg_registry_files.proofs.FolderLaws.{folder_has_none}
use Rattle.warg_registry_files.proofs.laws.a_folder_is_beside_the_home.Goals as goal

pub returns : goal.returns
returns c = folder_has_none
