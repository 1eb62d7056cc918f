-- Which texts a plan is made of: what a composer over files reads of a text has no place in a plan yet.
use Rattle.std.specs.Prelude.{◌≡◌, ℕ, false, if◌then◌else◌, List, [], ◌∷◌, Option, Some, None}
use Rattle.std.specs.List.{AllByRecursion}
use Rattle.std.specs.Option.{option_or}
use Rattle.compose_config.specs.Plan.{Settings, Instance, Argument}

-- what a text sets that has no place in a plan
pub data Misfit : Type 0 where
  Definitions : Misfit
  SearchPaths : Misfit
  Dependencies : Misfit
  ImportComponents : Misfit
  Export : List ℕ → List ℕ → Misfit

-- A text of which a plan is made: no files are named in it, no components are imported, and each argument is a whole instance.
pub record IsPlanText (s : Settings) : Type 0 where
  pub definitions : s.definitions ≡ []
  pub search_paths : s.search_paths ≡ []
  pub dependencies : s.dependencies ≡ []
  pub import_components : s.import_components ≡ false
  pub whole : AllByRecursion (λ (i : List ℕ × Instance). AllByRecursion (λ (a : List ℕ × Argument). a.1.export ≡ None) i.1.arguments) s.instantiations

abbrev pub if_set : {X : Type 0} → List X → Misfit → Option Misfit
if_set [] misfit = None
if_set (x ∷ xs) misfit = Some misfit

abbrev pub if_export : List ℕ → List ℕ → Option (List ℕ) → Option Misfit
if_export instance name None = None
if_export instance name (Some export) = Some (Export instance name)

-- the first argument of an instance that is an export
abbrev pub export_in : List ℕ → List (List ℕ × Argument) → Option Misfit
export_in instance [] = None
export_in instance (a ∷ args) = option_or (if_export instance a.0 a.1.export) (export_in instance args)

abbrev pub export_of : List (List ℕ × Instance) → Option Misfit
export_of [] = None
export_of (i ∷ is) = option_or (export_in i.0 i.1.arguments) (export_of is)

-- the first thing that a text sets and that has no place in a plan
unfoldable pub misfit_of : Settings → Option Misfit
misfit_of s =
    option_or (if_set s.definitions Definitions)
    (option_or (if_set s.search_paths SearchPaths)
    (option_or (if_set s.dependencies Dependencies)
    (option_or (if s.import_components then Some ImportComponents else None) (export_of s.instantiations))))
