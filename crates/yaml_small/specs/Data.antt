-- The plain trees that values of YAML nodes stand for.
use Rattle.std.specs.Prelude.{ℕ, List, [], ◌∷◌, Bool, ℤ}

mutual
  pub data Data : Type 0 where
    integer : ℤ → Data
    text : List ℕ → Data
    boolean : Bool → Data
    array : Items → Data
    hash : Members → Data
    null : Data

  pub data Items : Type 0 where
    no_items : Items
    item : Data → Items → Items

  pub data Members : Type 0 where
    no_members : Members
    member : List ℕ → Data → Members → Members

abbrev pub items_of : List Data → Items
items_of [] = no_items
items_of (d ∷ ds) = item d (items_of ds)

abbrev pub members_of : List (List ℕ × Data) → Members
members_of [] = no_members
members_of (p ∷ ps) = member p.0 p.1 (members_of ps)
