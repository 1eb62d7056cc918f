-- What a store of contents in files shows.
use Rattle.std.specs.Prelude.{ℕ, List, Option, option_map}
use Rattle.warg_base.specs.Files.{FileMap}
use Rattle.warg_store.specs.Contents.{Contents}
use Rattle.warg_content_files.specs.ContentFiles.{contents_in}
use Rattle.warg_content_files.specs.declared.storage.FileSystemContentStorage.{FileSystemContentStorage}

-- the files in which it keeps contents
abbrev pub files_of : {F L : Type 0} → FileSystemContentStorage F L → F
files_of store = store.files

-- the folder of its contents
abbrev pub folder_of : {F L : Type 0} → FileSystemContentStorage F L → List ℕ
folder_of store = store.folder

-- the lock that it holds
abbrev pub lock_of : {F L : Type 0} → FileSystemContentStorage F L → L
lock_of store = store.held

-- the contents that it holds, where its files are told
abbrev pub contents_of : {F L : Type 0} → (F → Option FileMap) → FileSystemContentStorage F L → Option Contents
contents_of told store = option_map (contents_in store.folder) (told store.files)
