-- All items of a component, as an image has them.
use Rattle.std.specs.Prelude.{◌≡◌, ℕ, Bool, List, ◌∷◌, ◌++◌, length, Some, None}
use Rattle.comp_format.specs.Items.{ItemTree}
use Rattle.comp_scope.specs.Image as scope
use Rattle.comp_scope.specs.Image.{nothing_seen, seen, seen_all}
use Rattle.comp_image.specs.declared.progress.Progress.{Progress}
use Rattle.comp_image.specs.Progress.{Imports, Shows}

-- the items have an image, which was seen
pub record AllSeen (is_component : List ℕ → Bool) (imports : Imports) (items : List ItemTree) (part : Progress) : Type 0 where
  pub progress : scope.Progress
  pub seen_is : seen_all is_component (nothing_seen imports) items ≡ Some progress
  pub shown : Shows imports part progress

-- the items in front of that of this number have an image, and with it they have none
pub record StopsAt (is_component : List ℕ → Bool) (imports : Imports) (items : List ItemTree) (number : ℕ) : Type 0 where
  pub front : List ItemTree
  pub item : ItemTree
  pub back : List ItemTree
  pub parts : items ≡ front ++ item ∷ back
  pub number_is : length front ≡ number
  pub before : scope.Progress
  pub seen_is : seen_all is_component (nothing_seen imports) front ≡ Some before
  pub stops : seen is_component before item ≡ None
