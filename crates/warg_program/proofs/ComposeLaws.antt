-- The stop of a composer's error, and of a configuration's.
use Rattle.std.proofs.Common.{◌≡◌, ap, refl, ℕ, Bool, true, false, List, Option, Some, None, IfSome}
use Rattle.std.proofs.lemmas.Bool.{false≢true}
use Rattle.warg_values.specs.Faults.{Rose}
use Rattle.warg_base.specs.Files.{FileMap}
use Rattle.warg_base.specs.declared.files.FileError.TheVariants as file
use Rattle.compose_config.specs.Plan.{Settings}
use Rattle.compose_files.specs.Built.{Sources}
use Rattle.compose_files.specs.Composable.{IsShortOfMemory}
use Rattle.compose_files.specs.Read.{HoldsSettings, IsConfigRefusal, IsConfigShort}
use Rattle.compose_files.specs.Refusals.{is_failure}
use Rattle.compose_files.specs.Refused.{IsRefused}
use Rattle.compose_files.specs.declared.config_error.ConfigError.{ConfigError}
use Rattle.compose_files.specs.declared.config_error.ConfigError.TheVariants as config
use Rattle.compose_files.specs.declared.error.ComposerError.{ComposerError}
use Rattle.compose_files.specs.declared.error.ComposerError.TheVariants as composer
use Rattle.warg_program.specs.Compose.{HoldsNone, IsNotComposed, IsOfText, IsUncomposed, stop_of}

-- what holds of each thing that is told
pub if_told : {A : Type 0} (o : Option A) (P : A → Type 0) → ((x : A) → o ≡ Some x → P x) → IfSome o P
if_told None P each = tt
if_told (Some x) P each = each x refl

abbrev is_memory : ComposerError → Bool
is_memory composer.Memory = true
is_memory _ = false

pub memory_is : (e : ComposerError) → IsShortOfMemory e → e ≡ composer.Memory
memory_is composer.Memory short = refl
memory_is _ short = absurd short

-- why nothing is composed, by the stop of the error
module _ (root : List ℕ) (IsOf : (Sources → Type 0) → Type 0) (before after : ℕ) where
  pub uncomposed : (e : ComposerError) → IsOf (λ s. IsRefused root s e) → (is_failure e ≡ false → (e ≡ composer.Memory → ⊥) → IsOf (IsNotComposed root e)) → (is_failure e ≡ true → Rose before after) → IsUncomposed (stop_of e) root IsOf before after
  uncomposed composer.Memory refused other failed = tt
  uncomposed (composer.File path file.Failed) refused other failed = (refl, failed refl, refused)
  uncomposed e refused other failed =
      let not_memory : e ≡ composer.Memory → ⊥ = λ same. false≢true (ap is_memory same) in
      (refl, not_memory, other refl not_memory)

-- ---- a configuration

text_not_short : (e : ConfigError) → IsOfText e → IsConfigShort e → ⊥
text_not_short config.NotUtf8 text short = short
text_not_short (config.Yaml e) text short = short
text_not_short _ text short = text

-- a file holds no settings where its text is refused
pub holds_none : (told : Option FileMap) (path : List ℕ) (e : ConfigError) → IsOfText e → ((held : FileMap) → told ≡ Some held → IsConfigRefusal held path e)
    → ((held : FileMap) → told ≡ Some held → (settings : Settings) → HoldsSettings held path settings → IsConfigShort e) → IfSome told (HoldsNone path e)
holds_none told path e text refused only = if_told told (HoldsNone path e) (λ held is. record {
  of_text = text;
  refused = refused held is;
  none = λ settings says. text_not_short e text (only held is settings says);
})
