-- What is known of the things that one needs, through others too, while they are listed.
use Rattle.std.specs.Prelude.{◌≡◌, ℕ, true, List, [], ◌∷◌, ◌++◌, take, if◌then◌else◌}
use Rattle.std.specs.List.{fold}
use Rattle.std.specs.BTreeSet.{BTreeSet, contains}
use Rattle.std.specs.Ordering.{nat_cmp}
use Rattle.compose_agree.specs.Order.{has, needs_at}
use Rattle.compose_check.specs.Circles.{Reaches}

-- the set of these numbers
abbrev pub Holds : BTreeSet ℕ → List ℕ → Type 0
Holds set numbers = (n : ℕ) → contains nat_cmp set n ≡ has numbers n

-- numbers, with one more or some behind them where they are not there
abbrev pub with_number : List ℕ → ℕ → List ℕ
with_number numbers n = if has numbers n then numbers else numbers ++ n ∷ []

abbrev pub with_numbers : List ℕ → List ℕ → List ℕ
with_numbers numbers more = fold with_number numbers more

-- A way leads to each of these things. What is needed by the thing itself, and by the first ones of these, is among them.
pub record Spreads (needs : List (List ℕ)) (from next : ℕ) (things : List ℕ) : Type 0 where
  pub reached : (n : ℕ) → has things n ≡ true → Reaches needs from n
  pub first : (m : ℕ) → has (needs_at needs from) m ≡ true → has things m ≡ true
  pub closed : (n m : ℕ) → has (take next things) n ≡ true → has (needs_at needs n) m ≡ true → has things m ≡ true
