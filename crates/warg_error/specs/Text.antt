-- Texts of which plans are made, and why none is made of a text.
use Rattle.std.specs.Prelude.{◌≡◌, ℕ, List, Some}
use Rattle.yaml_read.specs.Answers.{ReadFails}
use Rattle.yaml_read.specs.Whole.{Holds, whole_at}
use Rattle.yaml_read.specs.declared.error.DeError.{DeError}
use Rattle.yaml_read.specs.declared.error.DeError.TheVariants as read
use Rattle.compose_config.specs.Plan.{Settings, settings_at, settings_node}
use Rattle.warg_plan.specs.Form as form
use Rattle.warg_error.specs.declared.error.PlanFault.{PlanFault}
use Rattle.warg_error.specs.declared.error.PlanFault.TheVariants as fault
use Rattle.warg_error.specs.declared.error.ClientError.{ClientError}
use Rattle.warg_error.specs.declared.error.ClientError.TheVariants as error

-- a text is a carried document with these settings, of which a plan is made
pub record IsPlanText (text : List ℕ) (s : Settings) : Type 0 where
  pub holds : Holds settings_node text s
  pub form : form.IsPlanText s

-- what a text sets that has no place in a plan, as a client tells it
abbrev pub IsMisfit : PlanFault → form.Misfit → Type 0
IsMisfit fault.Definitions form.Definitions = Unit {0}
IsMisfit fault.SearchPaths form.SearchPaths = Unit {0}
IsMisfit fault.Dependencies form.Dependencies = Unit {0}
IsMisfit fault.ImportComponents form.ImportComponents = Unit {0}
IsMisfit (fault.Export instance argument) (form.Export i a) = (instance ≡ i) × (argument ≡ a)
IsMisfit _ _ = ⊥

-- a text is a carried document whose settings have this, which has no place in a plan, in front of anything else
pub record HasMisfit (text : List ℕ) (misfit : form.Misfit) : Type 0 where
  pub settings : Settings
  pub holds : Holds settings_node text settings
  pub sets : form.misfit_of settings ≡ Some misfit

-- that a text is no configuration, as a client tells it
abbrev pub read_refusal : DeError → ClientError
read_refusal read.Memory = error.Memory
read_refusal e = error.BadPlan (fault.Text e)

-- why no plan is made of a text
abbrev pub IsPlanFault : PlanFault → List ℕ → Type 0
IsPlanFault (fault.Text e) text = ReadFails e (whole_at settings_at text)
IsPlanFault (fault.NoPackage key) text = ⊥
IsPlanFault (fault.NoSuchImport key name) text = ⊥
IsPlanFault e text = (misfit : form.Misfit) × IsMisfit e misfit × HasMisfit text misfit

-- a refusal of a text. Want of memory says nothing
abbrev pub IsTextFault : ClientError → List ℕ → Type 0
IsTextFault (error.BadPlan e) text = IsPlanFault e text
IsTextFault error.Memory text = Unit {0}
IsTextFault _ text = ⊥
