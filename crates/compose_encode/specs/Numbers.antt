-- The numbers that are written for what stands behind imports: lengths, counts and indices, each of which has to be
-- below 2 ^ 32 (Component Model, Binary.md, in which all of them are `u32`).
use Rattle.std.specs.Prelude.{◌≡◌, ℕ, ◌<◌, ◌≤◌, ◌+◌, ◌^◌, ◌⊎◌, List, [], ◌∷◌, ◌++◌, length}
use Rattle.std.specs.List.{AllByRecursion}
use Rattle.std.specs.Option.{option_map_or}
use Rattle.comp_format.specs.declared.types.InstanceItem.TheVariants as instance
use Rattle.comp_format.specs.declared.types.Alias.TheVariants as alias
use Rattle.comp_format.specs.Items.{ItemTree, Component, Instance, Aliased, Export}
use Rattle.comp_encoder.specs.Largest.{arg_largest, vector_largest}
use Rattle.comp_encoder.specs.Writing.{item_sort, numbered}

-- how many items of its sort there are with an item, behind some items
abbrev pub count_with : List ItemTree → ItemTree → ℕ
count_with front item = option_map_or (λ kind. numbered kind front + 1) (item_sort item) 0

-- the length of a component or of a name; of an instance, the index of its component, and the largest of the number of
-- arguments and their lengths and indices
abbrev pub item_numbers : ItemTree → List ℕ
item_numbers (Component bytes) = length bytes ∷ []
item_numbers (Instance (instance.Instantiate component args)) = component ∷ vector_largest arg_largest args ∷ []
item_numbers (Aliased (alias.Export kind from name)) = length name ∷ []
item_numbers (Export e) = length e.name ∷ []
item_numbers item = []

abbrev pub numbers_of : List ItemTree → ItemTree → List ℕ
numbers_of front item = count_with front item ∷ item_numbers item

-- each number of these items, behind some
abbrev pub ItemsFit : List ItemTree → List ItemTree → Type 0
ItemsFit front [] = Unit {0}
ItemsFit front (item ∷ items) =
    AllByRecursion (λ n. n < 2 ^ 32) (numbers_of front item) × ItemsFit (front ++ item ∷ []) items

-- the number is one of them
abbrev pub IsOneOf : ℕ → List ℕ → Type 0
IsOneOf n [] = ⊥
IsOneOf n (m ∷ ms) = (n ≡ m) ⊎ IsOneOf n ms

abbrev pub IsOfItems : ℕ → List ItemTree → List ItemTree → Type 0
IsOfItems n front [] = ⊥
IsOfItems n front (item ∷ items) = IsOneOf n (numbers_of front item) ⊎ IsOfItems n (front ++ item ∷ []) items

-- items that begin with some, behind which each number can be written
pub record FitBehind (front items : List ItemTree) : Type 0 where
  pub behind : List ItemTree
  pub items_are : items ≡ front ++ behind
  pub fit : ItemsFit front behind

-- a number that is written for items behind these, and can't be
pub record IsTooLarge (n : ℕ) (front items : List ItemTree) : Type 0 where
  pub behind : List ItemTree
  pub items_are : items ≡ front ++ behind
  pub large : 2 ^ 32 ≤ n
  pub among : IsOfItems n front behind
