-- That a text of a plan is read as one, and refused for want of memory alone.
use Rattle.std.proofs.Common.{◌≡◌, ℕ, List, Option, Some, None, Result, Ok, refl}
use Rattle.yaml_read.specs.Answers.{ReadFails}
use Rattle.yaml_read.specs.Source.{Refusal}
use Rattle.yaml_read.specs.Whole.{whole_at}
use Rattle.yaml_read.specs.declared.error.DeError.{DeError}
use Rattle.yaml_read.specs.declared.error.DeError.TheVariants as read
use Rattle.yaml_small.specs.declared.error.ScanError.TheVariants as scan
use Rattle.compose_config.specs.Plan.{Settings, settings_at}
use Rattle.warg_plan.specs.Form.{Misfit}
use Rattle.warg_error.specs.Text.{IsTextFault, read_refusal}
use Rattle.warg_error.specs.declared.error.ClientError.TheVariants as error

pub settings_are : (s t : Settings) → ◌≡◌ {A = Result Settings Refusal} (Ok s) (Ok t) → t ≡ s
settings_are s t e = cc

pub none_some : (o : Option Misfit) (m : Misfit) → o ≡ None → o ≡ Some m → ⊥
none_some o m none some = absurd cc

-- why a text is not read, as a client tells it
pub read_fault : (e : DeError) (text : List ℕ) → ReadFails e (whole_at settings_at text) → IsTextFault (read_refusal e) text
read_fault read.Memory text h = tt
read_fault e text h = h

-- what stands in a text is read, but for want of memory
pub read_short : (e : DeError) (s : Settings) → ReadFails {Y = Settings} e (Ok s) → read_refusal e ≡ error.Memory
read_short read.Memory s h = refl
read_short (read.Scan scan.Memory) s h = absurd h
read_short (read.Scan (scan.Form marker)) s h = absurd cc
read_short (read.Scan (scan.NotCarried marker)) s h = absurd cc
read_short (read.Scan (scan.TooDeep marker)) s h = absurd cc
read_short e s h = absurd cc
