-- Files of configurations: what one says, what is written, and where one is looked for.
use Rattle.std.specs.Prelude.{◌≡◌, ℕ, List, ◌++◌, codes, find, map, is_some, Option, Some, None, IfSome, option_map, option_and_then}
use Rattle.std.specs.Option.{option_or, option_to_list}
use Rattle.std.specs.Path.{path_join, path_parent}
use Rattle.warg_values.specs.Faults.{Rose}
use Rattle.warg_base.specs.Files.{FileMap, file_at}
use Rattle.warg_base.specs.declared.files.FileError.TheVariants.{Missing, Failed, Memory as files_memory}
use Rattle.warg_config.specs.Paths.{folder_of, folders_up, place_of, relative_to}
use Rattle.warg_config.specs.Settings.{Settings, settings_of_bytes, settings_text, with_paths}
use Rattle.warg_config.specs.declared.dirs.Dirs.{Dirs}
use Rattle.warg_config.specs.declared.error.ClientConfigError.{ClientConfigError}
use Rattle.warg_config.specs.declared.error.ClientConfigError.TheVariants.{File, Form, NoDirectory, NoParent, Memory}

-- ---- reading

-- what the bytes of a file with this path say, with the three paths joined with the file's folder
abbrev pub settings_from : List ℕ → List ℕ → Option Settings
settings_from path bytes = option_map (with_paths (path_join (folder_of path))) (settings_of_bytes bytes)

-- what the file at a path says
abbrev pub settings_at : FileMap → List ℕ → Option Settings
settings_at files path = option_and_then (settings_from path) (file_at files path)

-- bytes that say nothing are the file's
abbrev pub IsUnreadable : FileMap → List ℕ → Type 0
IsUnreadable files path = (bytes : List ℕ) × (file_at files path ≡ Some bytes) × (settings_of_bytes bytes ≡ None)

-- why the file at a path could not be read, by the counts of faults before and after, and the files where they are told
abbrev pub IsReadFault : ClientConfigError → ℕ → ℕ → Option FileMap → List ℕ → Type 0
IsReadFault (File Missing) before after told path = IfSome told (λ files. file_at files path ≡ None)
IsReadFault (File Failed) before after told path = Rose before after
IsReadFault (File files_memory) before after told path = ⊥
IsReadFault Form before after told path = IfSome told (λ files. IsUnreadable files path)
IsReadFault NoDirectory before after told path = ⊥
IsReadFault NoParent before after told path = ⊥
IsReadFault Memory before after told path = Unit {0}

-- ---- writing

-- what is written at a path: each of the three paths relative to the file's folder
abbrev pub config_text : List ℕ → Settings → List ℕ
config_text path s = settings_text (with_paths (relative_to (folder_of path)) s)

-- A path that was read from a file leads to the place to which the other leads from the file's folder.
abbrev pub SamePath : List ℕ → Option (List ℕ) → Option (List ℕ) → Type 0
SamePath folder read path = option_map place_of read ≡ option_map (λ p. place_of (path_join folder p)) path

-- the settings that were read from a file of this folder have the same fields
pub record SameSettings (folder : List ℕ) (read s : Settings) : Type 0 where
  pub home_url : read.home_url ≡ s.home_url
  pub registries_dir : SamePath folder read.registries_dir s.registries_dir
  pub content_dir : SamePath folder read.content_dir s.content_dir
  pub namespace_map_path : SamePath folder read.namespace_map_path s.namespace_map_path
  pub keyring_backend : read.keyring_backend ≡ s.keyring_backend
  pub keys : read.keys ≡ s.keys
  pub keyring_auth : read.keyring_auth ≡ s.keyring_auth
  pub ignore_federation_hints : read.ignore_federation_hints ≡ s.ignore_federation_hints
  pub disable_auto_accept_federation_hints :
      read.disable_auto_accept_federation_hints ≡ s.disable_auto_accept_federation_hints
  pub disable_auto_package_init : read.disable_auto_package_init ≡ s.disable_auto_package_init
  pub disable_interactive : read.disable_interactive ≡ s.disable_interactive

-- what is written at a path reads back with the same fields
abbrev pub ReadsBack : List ℕ → Settings → Type 0
ReadsBack path s =
    (read : Settings) × (settings_from path (config_text path s) ≡ Some read) × SameSettings (folder_of path) read s

-- why a file could not be written, of which nothing was tried where its path has no folder
abbrev pub IsWriteFault : ClientConfigError → ℕ → ℕ → List ℕ → Type 0
IsWriteFault (File Missing) before after path = ⊥
IsWriteFault (File Failed) before after path = Rose before after
IsWriteFault (File files_memory) before after path = ⊥
IsWriteFault Form before after path = ⊥
IsWriteFault NoDirectory before after path = ⊥
IsWriteFault NoParent before after path = (path_parent path ≡ None) × (after ≡ before)
IsWriteFault Memory before after path = Unit {0}

-- ---- the default file

-- the paths at which a configuration is looked for from a folder on: `warg-config.json` in it and in those above it
abbrev pub local_paths : List ℕ → List (List ℕ)
local_paths cwd = map (λ folder. path_join folder (codes "warg-config.json")) (folders_up cwd)

-- the path under the machine's configuration folder
abbrev pub machine_path : List ℕ → List ℕ
machine_path config = path_join config (codes "warg/config.json")

-- all of them, in the order in which they are looked at
abbrev pub default_paths : List ℕ → Dirs → List (List ℕ)
default_paths cwd dirs = local_paths cwd ++ option_to_list (option_map machine_path dirs.config)

-- the first of some paths that a file has
abbrev pub first_file : FileMap → List (List ℕ) → Option (List ℕ)
first_file files paths = find (λ path. is_some (file_at files path)) paths

-- the settings of the first of some paths that a file has, or none where no file has any of them
abbrev pub IsFirst : FileMap → List (List ℕ) → Option Settings → Type 0
IsFirst files paths None = first_file files paths ≡ None
IsFirst files paths (Some s) = option_and_then (settings_at files) (first_file files paths) ≡ Some s

-- the file that is the first says nothing
abbrev pub IsFirstUnreadable : FileMap → List (List ℕ) → Type 0
IsFirstUnreadable files paths = (path : List ℕ) × (first_file files paths ≡ Some path) × IsUnreadable files path

-- why no default file could be read. One that was there is missing only where the files are not told
abbrev pub IsDefaultFault : ClientConfigError → ℕ → ℕ → Option FileMap → List ℕ → Dirs → Type 0
IsDefaultFault (File Missing) before after told cwd dirs = told ≡ None
IsDefaultFault (File Failed) before after told cwd dirs = Rose before after
IsDefaultFault (File files_memory) before after told cwd dirs = ⊥
IsDefaultFault Form before after told cwd dirs = IfSome told (λ files. IsFirstUnreadable files (default_paths cwd dirs))
IsDefaultFault NoDirectory before after told cwd dirs =
    (dirs.config ≡ None) × IfSome told (λ files. first_file files (local_paths cwd) ≡ None)
IsDefaultFault NoParent before after told cwd dirs = ⊥
IsDefaultFault Memory before after told cwd dirs = Unit {0}

-- ---- folders

-- a path that the configuration gives, or else one under the machine's folder
abbrev pub given_or_under : Option (List ℕ) → Option (List ℕ) → List ℕ → Option (List ℕ)
given_or_under path folder name = option_or path (option_map (λ f. path_join f name) folder)

-- The error tells that there is neither, unless memory ran out.
abbrev pub IsNowhere : ClientConfigError → Option (List ℕ) → Type 0
IsNowhere (File e) path = ⊥
IsNowhere Form path = ⊥
IsNowhere NoDirectory path = path ≡ None
IsNowhere NoParent path = ⊥
IsNowhere Memory path = Unit {0}
