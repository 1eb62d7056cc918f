-- Components that are bundled with the contents of the releases that their imports ask for, and why they are not.
use Rattle.std.specs.Prelude.{◌≡◌, ◌⊎◌, ℕ, List, map, Result}
use Rattle.comp_format.specs.Items.{ItemTree}
use Rattle.comp_format.specs.Sections.{Reads}
use Rattle.compose_bundle.specs.Bundled.{IsBundled}
use Rattle.compose_bundle.specs.Refusing.{IsBad, IsTooLarge}
use Rattle.warg_plan.specs.Walk.{Content, Facts, Stop, nothing_known}
use Rattle.warg_bundle.specs.Asked.{releases_asked}
use Rattle.warg_bundle.specs.Contents.{HasGoneOn, IsAnswered, IsUnanswered, contents_of, release_content}
use Rattle.warg_bundle.specs.declared.error.BundleError.{BundleError}
use Rattle.warg_bundle.specs.declared.error.BundleError.TheVariants as error

-- the contents of the releases that the imports among items ask for, over what is known
abbrev pub contents_for : List ItemTree → Facts → Result (List Content) Stop
contents_for items f = contents_of f (map (λ a. a.1) (releases_asked items))

module _ {T P : Type 0} (teaches : Facts → P → Facts) (Learns : T → Stop → P → T → Type 0) where
  -- The bytes are a component. Since a moment the contents of the releases were learnt that its imports of components ask for;
  -- and this is the component with these contents in the places of those imports.
  pub record IsReleaseBundle (old new : T) (bytes out : List ℕ) : Type 0 where
    pub items : List ItemTree
    pub read : Reads bytes items
    pub facts : Facts
    pub contents : List Content
    pub learnt : IsAnswered teaches (contents_for items) Learns nothing_known old facts new contents
    pub bundled : IsBundled (release_content facts) bytes out

  -- a number of the component with the contents can't be written
  pub record IsTooLargeBundle (old new : T) (items : List ItemTree) (n : ℕ) (bytes : List ℕ) : Type 0 where
    pub facts : Facts
    pub contents : List Content
    pub learnt : IsAnswered teaches (contents_for items) Learns nothing_known old facts new contents
    pub large : IsTooLarge n (release_content facts) bytes

  module _ {E : Type 0} (Refuses : T → Stop → E → T → Type 0) (old new : T) (bytes : List ℕ) where
    -- why a component of these items is not bundled: contents are not learnt, or a number can't be written
    abbrev pub IsUnbundled : List ItemTree → BundleError E → Type 0
    IsUnbundled items (error.BadComponent e) = ⊥
    IsUnbundled items (error.Search e) = IsUnanswered teaches (contents_for items) Learns Refuses nothing_known old new e
    IsUnbundled items (error.TooLarge n) = IsTooLargeBundle old new items n bytes
    IsUnbundled items error.Memory = HasGoneOn teaches (contents_for items) Learns nothing_known old new

    pub record IsOfComponent (e : BundleError E) : Type 0 where
      pub items : List ItemTree
      pub read : Reads bytes items
      pub cause : IsUnbundled items e

    -- the bytes are no component, or they are not read for want of memory; nothing was learnt
    abbrev pub IsUnread : BundleError E → Type 0
    IsUnread (error.BadComponent e) = (new ≡ old) × IsBad e bytes
    IsUnread error.Memory = new ≡ old
    IsUnread _ = ⊥

    abbrev pub IsBundleFault : BundleError E → Type 0
    IsBundleFault e = IsUnread e ⊎ IsOfComponent e
