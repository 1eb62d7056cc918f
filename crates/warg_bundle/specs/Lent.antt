-- Contents of releases, by the names that ask for them.
use Rattle.std.specs.Prelude.{◌≡◌, ◌⊎◌, ℕ, List, Option, Some, None}
use Rattle.std.specs.List.{AllByRecursion}
use Rattle.warg_names.specs.Import.{ImportTree}
use Rattle.warg_plan.specs.Walk.{Facts}
use Rattle.warg_bundle.specs.Asked.{release_asked}
use Rattle.warg_bundle.specs.Contents.{release_content}

-- each name asks for what stands beside it
abbrev pub AskFor : List (List ℕ × ImportTree) → Type 0
AskFor asked = AllByRecursion (λ a. release_asked a.0 ≡ Some a.1) asked

-- Under each name that asks stands the content of the release that it asks for, and nothing else stands there.
pub record AreLent (f : Facts) (asked : List (List ℕ × ImportTree)) (content : List ℕ → Option (List ℕ)) : Type 0 where
  pub each : AllByRecursion (λ a. content a.0 ≡ release_content f a.0) asked
  pub only : (name : List ℕ) → (content name ≡ None) ⊎ (content name ≡ release_content f name)
