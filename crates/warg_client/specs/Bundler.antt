-- What a client bundles, and why it does not.
use Rattle.std.specs.Prelude.{◌≡◌, Bool, ℕ, List}
use Rattle.comp_shape.specs.declared.error.ShapeError.{ShapeError}
use Rattle.comp_shape.specs.Refusal.{IsRefused}
use Rattle.warg_api.specs.Link.{Asked}
use Rattle.warg_bundle.specs.Bundle.{IsBundleFault, IsReleaseBundle}
use Rattle.warg_bundle.specs.declared.error.BundleError.{BundleError}
use Rattle.warg_bundle.specs.declared.error.BundleError.TheVariants as bundle
use Rattle.warg_learn.specs.Recalled.{IsNeitherLearnt, IsRecalledOrLearnt, taught}
use Rattle.warg_learn.specs.Seen.{Seen}
use Rattle.warg_learn.specs.declared.error.LearnError.{LearnError}
use Rattle.warg_compose.specs.Read.{IsComponent}
use Rattle.warg_complete.specs.ClientError.{ClientError}
use Rattle.warg_complete.specs.ClientError.TheVariants as told
use Rattle.warg_complete.specs.Plans.{search_refusal, shape_refusal}

-- what a client tells of a component that is not bundled
abbrev pub bundle_refusal : BundleError (LearnError ShapeError) → ClientError
bundle_refusal (bundle.BadComponent e) = shape_refusal e
bundle_refusal (bundle.Search e) = search_refusal e
bundle_refusal (bundle.TooLarge n) = told.TooLarge n
bundle_refusal bundle.Memory = told.Memory

module _ {T D : Type 0} (Steps : T → Asked → T → Type 0) (old new : Seen T D) where
  -- Since a moment a component was bundled with the contents of the releases that its imports of components ask for. Each
  -- lesson is what was needed next: the log that is kept of a package or, where none is, that of an update of it; or a
  -- content, which has its digest.
  abbrev pub IsReleasesBundled : List ℕ → List ℕ → Type 0
  IsReleasesBundled = IsReleaseBundle taught (IsRecalledOrLearnt Steps IsComponent) old new

  -- a component is not bundled, by what may be said where a decision is asked
  pub record IsNotBundled (said : D → D → Bool → Bool) (bytes : List ℕ) (e : ClientError) : Type 0 where
    pub refusal : BundleError (LearnError ShapeError)
    pub tells : e ≡ bundle_refusal refusal
    pub cause : IsBundleFault taught (IsRecalledOrLearnt Steps IsComponent)
        (IsNeitherLearnt Steps said (λ bytes error. IsRefused error bytes)) old new bytes refusal
