-- What clauses see of places, and of stores of registries in files.
use Rattle.std.specs.Prelude.{Option, option_map}
use Rattle.warg_base.specs.Files.{FileMap}
use Rattle.warg_store.specs.Held.{Held}
use Rattle.warg_registry_files.specs.Paths as paths
use Rattle.warg_registry_files.specs.RegistryFiles.{held_in}
use Rattle.warg_registry_files.specs.declared.paths.Place.{Place}
use Rattle.warg_registry_files.specs.declared.storage.FileSystemRegistryStorage.{FileSystemRegistryStorage}

abbrev pub place_view : Place → paths.Place
place_view place = record { parent = place.parent; own = place.own }

-- the files in which registries are kept
abbrev pub files_of : {F L : Type 0} → FileSystemRegistryStorage F L → F
files_of store = store.files

-- where they are in these files
abbrev pub place_of : {F L : Type 0} → FileSystemRegistryStorage F L → paths.Place
place_of store = place_view store.place

-- the lock that it holds
abbrev pub lock_of : {F L : Type 0} → FileSystemRegistryStorage F L → L
lock_of store = store.held

-- what is held, where the files are told
abbrev pub held_of : {F L : Type 0} → (F → Option FileMap) → FileSystemRegistryStorage F L → Option Held
held_of told store = option_map (held_in (place_view store.place)) (told store.files)
