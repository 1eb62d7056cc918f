-- What the indices of a scope stand for, by numbers of a table.
use Rattle.std.specs.Prelude.{◌≡◌, Bool, List, [], ◌∷◌, map, length}
use Rattle.comp_scope.specs.Spaces as scope
use Rattle.comp_space.specs.declared.standing.Standing.{Standing}
use Rattle.comp_table.specs.Plain.{plain_entity}
use Rattle.comp_table.specs.Trees.{PlainTree, Stands, IsBelow}

-- The number stands for this, as such things are trees of heads, and the truth value is this.
pub record Shows {Y : Type 0} (plain : Y → PlainTree) (table : List PlainTree) (standing : Standing) (y : Y × Bool) : Type 0 where
  pub stands : Stands table standing.number (plain y.0)
  pub named_is : standing.named ≡ y.1

-- two lists are as long, and what stands at one index of them is so related
abbrev pub Pairwise : {X Y : Type 0} → (X → Y → Type 0) → List X → List Y → Type 0
Pairwise R [] [] = Unit {0}
Pairwise R (x ∷ xs) (y ∷ ys) = R x y × Pairwise R xs ys
Pairwise R _ _ = ⊥

-- what the indices of an index space stand for, from 0 on
abbrev pub AllShow : List PlainTree → List Standing → List scope.Standing → Type 0
AllShow table standings es = Pairwise (Shows plain_entity table) standings es

-- each number stands for something
abbrev pub AreThere : List PlainTree → List Standing → Type 0
AreThere table standings = IsBelow (length table) (map (λ s. s.number) standings)
