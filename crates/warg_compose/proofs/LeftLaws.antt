-- Left imports have names that were asked.
use Rattle.std.proofs.Common.{◌≡◌, sym, subst, refl, ℕ, zero, suc, Bool, true, false, true≢false, cond, ◌||◌, List, [], ◌∷◌}
use Rattle.std.specs.Prelude.{bytes_eq, fold}
use Rattle.std.specs.List.{AllByRecursion}
use Rattle.std.proofs.lemmas.Slice.Eq.{bytes_eq-Decides}
use Rattle.compose_check.specs.Open.{Asked, merged_all, merged_with, with_asked}
use Rattle.compose_encode.specs.Refusing.{has_name}
use Rattle.compose_order.specs.Agreed.{import_at_number, in_turn}
use Rattle.compose_order.specs.Needs.{LeftTree}
use Rattle.warg_compose.proofs.WireLaws.{all_both}

module _ (P : List ℕ → Type 0) where
  abbrev pub AreCalled : List LeftTree → Type 0
  AreCalled ls = AllByRecursion (λ (l : LeftTree). P l.name) ls

  called_with : (ls : List LeftTree) (x : Asked) → AreCalled ls → P x.0 → AreCalled (with_asked ls x)
  called_with [] x all p = (p, tt)
  called_with (l ∷ ls) x all p = by (bytes_eq x.0 l.name) (called_with ls x all.1 p)
    where
      by : (b : Bool) → AreCalled (with_asked ls x) → AreCalled (cond b (merged_with l x.1 ∷ ls) (l ∷ with_asked ls x))
      by true later = (all.0, all.1)
      by false later = (all.0, later)

  called_all : (ls : List LeftTree) (xs : List Asked) → AreCalled ls → AllByRecursion (λ (x : Asked). P x.0) xs → AreCalled (fold with_asked ls xs)
  called_all ls [] called all = called
  called_all ls (x ∷ xs) called all = called_all (with_asked ls x) xs (called_with ls x called all.0) all.1

  pub merged_called : (xs : List Asked) → AllByRecursion (λ (x : Asked). P x.0) xs → AreCalled (merged_all xs)
  merged_called xs all = called_all [] xs tt all

  one_called : (ls : List LeftTree) (n : ℕ) → AreCalled ls → AreCalled (import_at_number ls n)
  one_called [] n all = tt
  one_called (l ∷ ls) zero all = (all.0, tt)
  one_called (l ∷ ls) (suc n) all = one_called ls n all.1

  pub turn_called : (ls : List LeftTree) (ns : List ℕ) → AreCalled ls → AreCalled (in_turn ls ns)
  turn_called ls [] all = tt
  turn_called ls (n ∷ ns) all = all_both (λ (l : LeftTree). P l.name) (import_at_number ls n) (in_turn ls ns) (one_called ls n all) (turn_called ls ns all)

  -- a name that one of them has
  pub has_called : (ls : List LeftTree) (name : List ℕ) → AreCalled ls → has_name ls name ≡ true → P name
  has_called [] name all h = absurd (true≢false (sym h))
  has_called (l ∷ ls) name all h = by (bytes_eq name l.name) refl h (has_called ls name all.1)
    where
      by : (b : Bool) → bytes_eq name l.name ≡ b → (b || has_name ls name) ≡ true → (has_name ls name ≡ true → P name) → P name
      by true e h later = subst P (sym ((bytes_eq-Decides name l.name).0 e)) all.0
      by false e h later = later h
