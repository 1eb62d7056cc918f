-- What configuration a file holds, and why it holds none.
use Rattle.std.specs.Prelude.{◌≡◌, ◌≢◌, ℕ, Bool, true, false, List, Some}
use Rattle.std.specs.Str.{IsUtf8}
use Rattle.warg_base.specs.Files.{FileMap, file_at}
use Rattle.warg_base.specs.declared.files.FileError.TheVariants as file
use Rattle.yaml_read.specs.Answers.{ReadFails}
use Rattle.yaml_read.specs.Whole.{Holds, whole_at}
use Rattle.yaml_read.specs.declared.error.DeError.{DeError}
use Rattle.yaml_read.specs.declared.error.DeError.TheVariants as yaml
use Rattle.compose_config.specs.Plan.{Settings, settings_at, settings_node}
use Rattle.compose_files.specs.Refusals.{IsFileFault}
use Rattle.compose_files.specs.declared.config_error.ConfigError.{ConfigError}
use Rattle.compose_files.specs.declared.config_error.ConfigError.TheVariants as error

-- the file at a path is a text that holds these settings
pub record HoldsSettings (files : FileMap) (path : List ℕ) (settings : Settings) : Type 0 where
  pub text : List ℕ
  pub found : file_at files path ≡ Some text
  pub is_text : IsUtf8 text
  pub holds : Holds settings_node text settings

-- ---- refusals

-- the file at a path is no text
pub record IsNoText (files : FileMap) (path : List ℕ) : Type 0 where
  pub bytes : List ℕ
  pub found : file_at files path ≡ Some bytes
  pub no_text : ¬ IsUtf8 bytes

-- the text of the file at a path holds no settings
pub record HoldsNoSettings (files : FileMap) (path : List ℕ) (e : DeError) : Type 0 where
  pub text : List ℕ
  pub found : file_at files path ≡ Some text
  pub is_text : IsUtf8 text
  pub refused : ReadFails e (whole_at settings_at text)
  pub not_for_memory : e ≢ yaml.Memory

-- the refusal of a text
abbrev pub refusal_of : DeError → ConfigError
refusal_of yaml.Memory = error.Memory
refusal_of e = error.Yaml e

-- why no configuration is read from the file at a path; want of memory has no cause here
abbrev pub IsConfigRefusal : FileMap → List ℕ → ConfigError → Type 0
IsConfigRefusal files path (error.File e) = IsFileFault files path e
IsConfigRefusal files path error.NotUtf8 = IsNoText files path
IsConfigRefusal files path (error.Yaml e) = HoldsNoSettings files path e
IsConfigRefusal files path error.Memory = Unit {0}

-- want of memory, or a failure of the outside
abbrev pub IsConfigShort : ConfigError → Type 0
IsConfigShort (error.File file.Failed) = Unit {0}
IsConfigShort error.Memory = Unit {0}
IsConfigShort _ = ⊥

-- the outside failed
abbrev pub is_outside : ConfigError → Bool
is_outside (error.File file.Failed) = true
is_outside _ = false
