-- The command `compose ROOT CONFIG OUT`: what it makes, and why it makes nothing.
use Rattle.std.specs.Prelude.{◌≡◌, ◌≢◌, ℕ, true, false, List, IfSome, is_some}
use Rattle.warg_values.specs.Faults.{Rose}
use Rattle.warg_base.specs.Files.{FileMap, file_at}
use Rattle.warg_base.specs.declared.files.FileError.TheVariants as file
use Rattle.compose_config.specs.Plan.{Settings}
use Rattle.compose_files.specs.Built.{Sources}
use Rattle.compose_files.specs.Composable.{IsComposable}
use Rattle.compose_files.specs.Composed.{IsComposed}
use Rattle.compose_files.specs.Paths.{folder}
use Rattle.compose_files.specs.Read.{HoldsSettings, IsConfigRefusal}
use Rattle.compose_files.specs.Refusals.{is_failure}
use Rattle.compose_files.specs.Refused.{IsRefused}
use Rattle.compose_files.specs.declared.config_error.ConfigError.{ConfigError}
use Rattle.compose_files.specs.declared.config_error.ConfigError.TheVariants as config
use Rattle.compose_files.specs.declared.error.ComposerError.{ComposerError}
use Rattle.compose_files.specs.declared.error.ComposerError.TheVariants as composer
use Rattle.warg_program.specs.Assembly.{IsReadCause}
use Rattle.warg_program.specs.Lines.{bytes_line}
use Rattle.warg_program.specs.World.{SeenFiles}
use Rattle.warg_program.specs.declared.stop.Stop.{Stop}
use Rattle.warg_program.specs.declared.stop.Stop.TheVariants as stop

-- a path has a file
abbrev pub HasSomeFile : SeenFiles → List ℕ → Type 0
HasSomeFile f path = IfSome f.held (λ files. is_some (file_at files path) ≡ true)

-- what a composition by the file at a path is made from, where that holds these settings
abbrev pub sources_by : FileMap → (path : List ℕ) → Settings → Sources
sources_by held path settings = record { dir = folder path; settings = settings; files = held }

-- The file at a path holds settings, and of what a composition by it is made from, this holds.
pub record IsByConfig (path : List ℕ) (Holds : Sources → Type 0) (held : FileMap) : Type 0 where
  pub settings : Settings
  pub says : HoldsSettings held path settings
  pub holds : Holds (sources_by held path settings)

-- The bytes are the graph of CONFIG and the files as one component. The line tells how many there are, and their SHA-256.
pub record IsComposition (root config : List ℕ) (files : SeenFiles) (bytes line : List ℕ) : Type 0 where
  pub composed : IfSome files.held (IsByConfig config (λ s. IsComposed root s bytes))
  pub line_is : line ≡ bytes_line bytes

-- ---- refusals

-- the bytes of a file are no text, or their text holds no settings
abbrev pub IsOfText : ConfigError → Type 0
IsOfText config.NotUtf8 = Unit {0}
IsOfText (config.Yaml e) = Unit {0}
IsOfText _ = ⊥

-- The file at a path holds no settings, for this reason.
pub record HoldsNone (path : List ℕ) (e : ConfigError) (held : FileMap) : Type 0 where
  pub of_text : IsOfText e
  pub refused : IsConfigRefusal held path e
  pub none : (settings : Settings) → HoldsSettings held path settings → ⊥

-- why the file at a path gives no configuration
abbrev pub IsConfigCause : Stop → (path : List ℕ) → (before after : SeenFiles) → Type 0
IsConfigCause (stop.BadConfig at refusal) path before after =
    (at.now ≡ path) × IfSome before.held (HoldsNone path refusal.error)
IsConfigCause s path before after = IsReadCause s path before after

-- Nothing is composed of a configuration and files, for this reason, and nothing could be.
pub record IsNotComposed (root : List ℕ) (e : ComposerError) (s : Sources) : Type 0 where
  pub refused : IsRefused root s e
  pub not_composable : ¬ IsComposable root s

-- the stop of a composer's error
abbrev pub stop_of : ComposerError → Stop
stop_of composer.Memory = stop.Memory
stop_of (composer.File path file.Failed) = stop.Unread (composer.File path file.Failed)
stop_of e = stop.NotComposed e

-- why nothing is composed of what something is said of: the composer refuses, by its causes, but for want of memory; and
-- where a file failed, the count of faults rose
abbrev pub IsUncomposed : Stop → (root : List ℕ) → ((Sources → Type 0) → Type 0) → (before after : ℕ) → Type 0
IsUncomposed (stop.NotComposed e) root IsOf before after = (is_failure e ≡ false) × (e ≢ composer.Memory) × IsOf (IsNotComposed root e)
IsUncomposed (stop.Unread e) root IsOf before after = (is_failure e ≡ true) × Rose before after × IsOf (λ s. IsRefused root s e)
IsUncomposed stop.Memory root IsOf before after = Unit {0}
IsUncomposed _ root IsOf before after = ⊥

-- why ROOT is not composed by CONFIG, which holds settings
abbrev pub IsComposerCause : Stop → (root config : List ℕ) → (before after : SeenFiles) → Type 0
IsComposerCause s root config before after =
    IsUncomposed s root (λ Holds. IfSome before.held (IsByConfig config Holds)) before.faults after.faults

-- Why nothing was composed. There is a file at ROOT; then CONFIG is read and judged; the composition comes after them.
pub data IsCompositionCause (s : Stop) (root config : List ℕ) (before after : SeenFiles) : Type 0 where
  AtRoot : IsReadCause s root before after → IsCompositionCause s root config before after
  AtConfig : HasSomeFile before root → IsConfigCause s config before after → IsCompositionCause s root config before after
  AtComposer : HasSomeFile before root → IsComposerCause s root config before after
      → IsCompositionCause s root config before after
