-- What is known of an order while it is made.
use Rattle.std.specs.Prelude.{◌≡◌, ◌⊎◌, ℕ, ◌<◌, ◌==◌, Bool, true, false, not, List, [], ◌∷◌, ◌++◌, length, take, filter, slice_get, Option, Some, None, Vec}
use Rattle.std.specs.Global.{Global}
use Rattle.std.specs.List.{AllByRecursion, list_any, list_all, range_with_len}
use Rattle.std.specs.BTreeMap.{BTreeMap, get}
use Rattle.std.specs.BTreeSet.{BTreeSet, contains}
use Rattle.std.specs.Ordering.{nat_cmp}
use Rattle.compose_agree.specs.Order.{has, needs_at, is_ready}
use Rattle.compose_agree.specs.declared.turns.Waiter.{Waiter}
use Rattle.compose_agree.specs.declared.turns.Open.{Open}
use Rattle.compose_agree.specs.declared.turns.Turns.{Turns}

-- the set holds the numbers that are taken
abbrev pub IsTaken : BTreeSet ℕ → List ℕ → Type 0
IsTaken taken done = (n : ℕ) → contains nat_cmp taken n ≡ has done n

-- the numbers below an end that are not taken, in order
abbrev pub left_of : List ℕ → ℕ → List ℕ
left_of done end = filter (λ n. not (has done n)) (range_with_len 0 end)

-- the first of some numbers that is not taken
pub record IsOpenAt (done numbers : List ℕ) (o : Open) : Type 0 where
  pub at : slice_get numbers o.place ≡ Some o.number
  pub left : has done o.number ≡ false
  pub before : list_all (has done) (take o.place numbers) ≡ true

abbrev pub thing_of : Waiter → ℕ
thing_of w = w.thing

abbrev pub waiters_in : Option (Vec Waiter Global) → List Waiter
waiters_in None = []
waiters_in (Some waiters) = waiters.items

-- what waits for a thing
abbrev pub waiters_of : BTreeMap ℕ (Vec Waiter Global) → ℕ → List Waiter
waiters_of waiting n = waiters_in (get nat_cmp waiting n)

abbrev pub waits_in : List Waiter → ℕ → Bool
waits_in waiters n = list_any (λ (w : Waiter). w.thing == n) waiters

-- a thing that is not taken, of which all that it needs up to a place is
pub record IsOpen (needs : List (List ℕ)) (done : List ℕ) (w : Waiter) : Type 0 where
  pub there : w.thing < length needs
  pub left : has done w.thing ≡ false
  pub before : list_all (has done) (take w.place (needs_at needs w.thing)) ≡ true

-- and that waits for this one
pub record WaitsFor (needs : List (List ℕ)) (done : List ℕ) (m : ℕ) (w : Waiter) : Type 0 where
  pub is_open : IsOpen needs done w
  pub asked : slice_get (needs_at needs w.thing) w.place ≡ Some m
  pub missing : has done m ≡ false

pub record IsReady (needs : List (List ℕ)) (done : List ℕ) (n : ℕ) : Type 0 where
  pub there : n < length needs
  pub left : has done n ≡ false
  pub met : is_ready needs done n ≡ true

-- where a thing is: taken, ready, waiting, or apart from these
abbrev pub IsSomewhere : List ℕ → List ℕ → Turns → ℕ → Type 0
IsSomewhere done apart t n =
    (has done n ≡ true) ⊎ ((contains nat_cmp t.ready n ≡ true) ⊎ (((m : ℕ) × (waits_in (waiters_of t.waiting m) n ≡ true)) ⊎ (has apart n ≡ true)))

-- what is taken, with all else but what is apart
pub record AreTurns (needs : List (List ℕ)) (done apart : List ℕ) (t : Turns) : Type 0 where
  pub taken : IsTaken t.taken done
  pub ready : (n : ℕ) → contains nat_cmp t.ready n ≡ true → IsReady needs done n
  pub waiting : (m : ℕ) → AllByRecursion (WaitsFor needs done m) (waiters_of t.waiting m)
  pub somewhere : (n : ℕ) → n < length needs → IsSomewhere done apart t n

-- nothing is ready of what is not taken
pub record NoneReady (needs : List (List ℕ)) (done : List ℕ) (t : Turns) : Type 0 where
  pub idle : (n : ℕ) → n < length needs → has done n ≡ false → is_ready needs done n ≡ false
  pub turns : AreTurns needs done [] t

-- the first that is ready was taken
pub record IsFirst (needs : List (List ℕ)) (done : List ℕ) (t : Turns) (n : ℕ) : Type 0 where
  pub is : IsReady needs done n
  pub first : (m : ℕ) → m < n → has done m ≡ false → is_ready needs done m ≡ false
  pub turns : AreTurns needs (done ++ n ∷ []) [] t

-- the first number below an end that is not taken
pub record IsFirstLeft (done : List ℕ) (end n : ℕ) : Type 0 where
  pub rest : List ℕ
  pub is : left_of done end ≡ n ∷ rest
