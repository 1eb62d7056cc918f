-- Imports agree, third part, in the words of the rule: what a left import needs, and where what it mentions is brought.
use Rattle.std.specs.Prelude.{◌≡◌, ◌⊎◌, ℕ, true, false, List, [], ◌∷◌, ◌++◌, map, Some, IsSome, bytes_eq, Contains}
use Rattle.std.specs.List.{AllByRecursion}
use Rattle.compose_left.specs.declared.spots.Thing.{Thing}
use Rattle.compose_needs.specs.declared.leaves.Leaf.{Leaf}
use Rattle.compose_needs.specs.Components.{HoldsTied}
use Rattle.compose_needs.specs.Leaves.{leaves_at}
use Rattle.compose_needs.specs.Lefts.{Lefts}
use Rattle.compose_needs.specs.Mentioned.{has, mentioned}
use Rattle.compose_order.specs.Needs.{LeftTree, called_at, thing_of}

-- ---- what an import brings and exports

-- those that need the import name a thing there
abbrev pub IsNamedIn : LeftTree → Thing → Type 0
IsNamedIn l t = has (map thing_of l.calls) t ≡ true

-- It brings a resource that is named there and whose origin it is.
abbrev pub BringsResource : Lefts → LeftTree → Thing → Type 0
BringsResource left l t = (t.is_type ≡ false) × IsNamedIn l t × (left t.number ≡ Some l.name)

-- It exports a named type that is named there.
abbrev pub ExportsType : LeftTree → Thing → Type 0
ExportsType l t = (t.is_type ≡ true) × IsNamedIn l t

abbrev pub Brings : Lefts → LeftTree → Thing → Type 0
Brings left l t = BringsResource left l t ⊎ ExportsType l t

-- a thing is named at a place of an import
abbrev pub IsNamedAtLeaf : LeftTree → Thing → Leaf → Type 0
IsNamedAtLeaf l t leaf = has (called_at l.calls leaf.path) t ≡ true

-- ---- what it needs

-- A left import needs each resource that it mentions and does not itself bring, and each named type that it mentions
-- and does not itself export.
abbrev pub NeedsThing : Lefts → LeftTree → Thing → Type 0
NeedsThing left l t = (has (mentioned l.entity) t ≡ true) × ¬ (Brings left l t)

-- it needs something of another import
pub record NeedsSomethingOf (left : Lefts) (l : LeftTree) (other : List ℕ) : Type 0 where
  pub thing : Thing
  pub needed : NeedsThing left l thing
  pub origin : left thing.number ≡ Some other
  pub another : bytes_eq l.name other ≡ false

-- ---- where things are brought

-- one of some places at which an import brings or exports a thing
pub record IsBroughtAmong (left : Lefts) (l : LeftTree) (t : Thing) (leaves : List Leaf) : Type 0 where
  pub leaf : Leaf
  pub among : Contains leaves leaf
  pub brings : Brings left l t
  pub named : IsNamedAtLeaf l t leaf

-- what an import mentions at a place, and brings or exports itself, it brings or exports there or at an earlier place
abbrev pub BringsInOrder : Lefts → LeftTree → Type 0
BringsInOrder left l = (before after : List Leaf) (leaf : Leaf) (t : Thing)
    → leaves_at l.entity ≡ before ++ leaf ∷ after
    → has leaf.mentioned t ≡ true → Brings left l t → IsBroughtAmong left l t (before ++ leaf ∷ [])

-- ---- the rule

pub record IsBrought (left : Lefts) (l : LeftTree) : Type 0 where
  pub origins : (t : Thing) → NeedsThing left l t → IsSome (left t.number)
  pub in_order : BringsInOrder left l
  pub within : HoldsTied l.entity
