-- What a store of namespaces in a file shows.
use Rattle.std.specs.Prelude.{ℕ, List, Option, option_map}
use Rattle.warg_base.specs.Files.{FileMap}
use Rattle.warg_store.specs.Entry.{Entry}
use Rattle.warg_store.specs.Namespaces.{Names}
use Rattle.warg_namespace_files.specs.NamespaceFile.{held_at}
use Rattle.warg_namespace_files.specs.declared.storage.FileSystemNamespaceMapStorage.{FileSystemNamespaceMapStorage}

-- the files, of which one has the names
abbrev pub files_of : {F : Type 0} → FileSystemNamespaceMapStorage F → F
files_of store = store.files

-- the path of that file
abbrev pub path_of : {F : Type 0} → FileSystemNamespaceMapStorage F → List ℕ
path_of store = store.path

-- what it holds, where its files are told
abbrev pub names_held : {F : Type 0} → (F → Option FileMap) → FileSystemNamespaceMapStorage F → Option (Entry Names)
names_held told store = option_map (held_at store.path) (told store.files)
