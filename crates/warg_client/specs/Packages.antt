-- What a client answers of a package: its log, or the component that its plan makes.
use Rattle.std.specs.Prelude.{◌≡◌, ◌⊎◌, Bool, ℕ, List, [], fold}
use Rattle.std.specs.List.{AllByRecursion}
use Rattle.sha2.specs.Sha256.{sha256}
use Rattle.comp_shape.specs.declared.error.ShapeError.{ShapeError}
use Rattle.comp_shape.specs.Refusal.{IsRefused}
use Rattle.compose_config.specs.Plan.{no_settings}
use Rattle.warg_api.specs.Link.{Asked}
use Rattle.warg_names.specs.Import.{dependency}
use Rattle.warg_plan.specs.Keys.{Parsed}
use Rattle.warg_plan.specs.Plan.{IsPlan}
use Rattle.warg_plan.specs.Walk.{Entry, most_open, nothing_known}
use Rattle.warg_assemble.specs.Session.{Wanted}
use Rattle.warg_learn.specs.FetchError.{FetchError}
use Rattle.warg_learn.specs.Recalled.{IsNeitherLearnt, IsRecalledOrLearnt, Lesson, taught}
use Rattle.warg_learn.specs.Search.{AreLearnt, IsSearchRefusal}
use Rattle.warg_learn.specs.SearchError.{SearchError}
use Rattle.warg_learn.specs.Seen.{Seen}
use Rattle.warg_learn.specs.declared.error.LearnError.{LearnError}
use Rattle.warg_compose.specs.Read.{IsComponent}
use Rattle.warg_compose.specs.declared.error.ComposeError.{ComposeError}
use Rattle.warg_complete.specs.ClientError.{ClientError}
use Rattle.warg_complete.specs.Plans.{compose_refusal, search_refusal}
use Rattle.warg_complete.specs.Updates.{fetch_refusal}

-- an error tells that a package is not fetched, for a reason of this kind
pub record IsOfFetch (e : ClientError) (Refuses : FetchError → Type 0) : Type 0 where
  pub refusal : FetchError
  pub told : e ≡ fetch_refusal refusal
  pub refuses : Refuses refusal

-- the plan of a package begins at any release of it, and no text says more
abbrev pub package_wanted : List ℕ → Wanted
package_wanted name = record { settings = no_settings; root = Parsed (dependency [] name); depth = most_open }

module _ {T D : Type 0} (Steps : T → Asked → T → Type 0) (old new : Seen T D) where
  -- Since a moment these entries were found to be the plan of a package. Each lesson is what the walk asked for next:
  -- the log that is kept of a package or, where none is, that of an update of it; or a content, which has its digest.
  pub record IsPackagePlan (name : List ℕ) (es : List Entry) : Type 0 where
    pub lessons : List Lesson
    pub are : AreLearnt taught (package_wanted name) (IsRecalledOrLearnt Steps IsComponent) nothing_known old lessons
        new
    pub plan : IsPlan no_settings (fold taught nothing_known lessons) (package_wanted name).root es
    pub digests : AllByRecursion (λ e. sha256 e.content ≡ e.digest) es

  -- the search of a package's plan finds none, by what may be said where a decision is asked
  pub record IsPackageSearchRefused (said : D → D → Bool → Bool) (name : List ℕ) (e : ClientError) : Type 0 where
    pub refusal : SearchError (LearnError ShapeError)
    pub told : e ≡ search_refusal refusal
    pub cause : IsSearchRefusal taught (package_wanted name) (IsRecalledOrLearnt Steps IsComponent)
        (IsNeitherLearnt Steps said (λ bytes error. IsRefused error bytes)) old new refusal

  -- the plan of a package is found, and refused for a reason of this kind
  pub record IsPackagePlanRefused (Refuses : ComposeError → List Entry → Type 0) (name : List ℕ)
      (e : ClientError) : Type 0 where
    pub entries : List Entry
    pub planned : IsPackagePlan name entries
    pub refusal : ComposeError
    pub told : e ≡ compose_refusal refusal
    pub cause : Refuses refusal entries

  -- why there is no component of a package's plan, which is refused for reasons of this kind
  abbrev pub IsPackageFault : (D → D → Bool → Bool) → (ComposeError → List Entry → Type 0) → List ℕ → ClientError
      → Type 0
  IsPackageFault said Refuses name e = IsPackageSearchRefused said name e ⊎ IsPackagePlanRefused Refuses name e
