-- An order in which what is needed comes first.
use Rattle.std.specs.Prelude.{◌≡◌, ℕ, ◌<◌, Bool, true, false, List, [], ◌∷◌, ◌++◌, length, map, slice_index_or, ◌==◌, Vec}
use Rattle.std.specs.List.{AllByRecursion, list_any, list_all, range_with_len}
use Rattle.std.specs.Global.{Global}
use Rattle.compose_agree.specs.declared.order.Order.{Order}
use Rattle.compose_agree.specs.declared.order.Order.TheVariants as order

-- One after the other these are taken from what is left: each is the first of those left that is ready, given what is taken
-- already. The rest stays.
abbrev pub Takes : {X : Type 0} → (List X → X → Bool) → List X → List X → List X → List X → Type 0
Takes ready done left [] rest = left ≡ rest
Takes ready done left (x ∷ taken) rest =
    (front : List _) × (back : List _) × (left ≡ front ++ x ∷ back)
    × AllByRecursion (λ y. ready done y ≡ false) front × (ready done x ≡ true)
    × Takes ready (done ++ x ∷ []) (front ++ back) taken rest

-- all of them, in this order
abbrev pub IsOrder : {X : Type 0} → (List X → X → Bool) → List X → List X → Type 0
IsOrder ready all order = Takes ready [] all order []

-- Some are taken in turn, and none of the others is ready then. This is the first of them.
pub record IsStuck {X : Type 0} (ready : List X → X → Bool) (all : List X) (x : X) : Type 0 where
  pub taken : List X
  pub rest : List X
  pub takes : Takes ready [] all taken (x ∷ rest)
  pub none : AllByRecursion (λ y. ready taken y ≡ false) (x ∷ rest)

-- ---- things by number, each with the numbers of what it needs

abbrev pub has : List ℕ → ℕ → Bool
has numbers n = list_any (λ m. m == n) numbers

-- what the thing of this number needs
abbrev pub needs_at : List (List ℕ) → ℕ → List ℕ
needs_at needs n = slice_index_or needs n []

-- a thing is ready once all that it needs is taken
abbrev pub is_ready : List (List ℕ) → List ℕ → ℕ → Bool
is_ready needs taken n = list_all (has taken) (needs_at needs n)

-- the numbers of all things, in order
abbrev pub all_of : List (List ℕ) → List ℕ
all_of needs = range_with_len 0 (length needs)

-- Each thing that is needed is there, and has a place before that of what needs it: so no things need each other in a circle.
abbrev pub HasPlaces : List (List ℕ) → (ℕ → ℕ) → Type 0
HasPlaces needs place = (n m : ℕ) → has (needs_at needs n) m ≡ true → (place m < place n) × (has (all_of needs) m ≡ true)

-- ---- what lies in memory

abbrev pub needs_of : List (Vec ℕ Global) → List (List ℕ)
needs_of needs = map (λ (n : Vec ℕ Global). n.items) needs

-- these things have this order; or they have none, and this is the first that has no place
abbrev pub Ordered : (List ℕ → ℕ → Bool) → List ℕ → Order → Type 0
Ordered ready all (order.Whole numbers) = IsOrder ready all numbers.items
Ordered ready all (order.Circle n) = IsStuck ready all n
