use Rattle.warg_registry_files.proofs.FolderLaws.{paths_apart}
use Rattle.warg_registry_files.proofs.laws.two_registries_have_two_folders.Goals as goal

pub returns : goal.returns
returns c = paths_apart
