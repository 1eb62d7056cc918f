-- Laws of exchanges of an update, of which each request is the next after those before it.
use Rattle.std.proofs.Common.{◌≡◌, ◌++◌, ◌∷◌, [], ◌⊎◌, inl, inr, List, ℕ, zero, suc, Some, refl, sym, ap, subst, take, length}
use Rattle.std.proofs.Math.Seq.{take-append_seam}
use Rattle.std.specs.Prelude.{slice_get}
use Rattle.warg_exchange.specs.declared.exchange.Exchange.{Exchange}
use Rattle.warg_exchange.specs.Requests.{Asker}
use Rattle.warg_update.specs.Proved.{Start, Asks, AreAsked}

-- an item stands behind those before it
at-length : (before after : List Exchange) (x : Exchange) → slice_get (before ++ x ∷ after) (length before) ≡ Some x
at-length [] after x = refl
at-length (y ∷ before) after x = at-length before after x

-- each one is asked for behind those before it
pub asked-at : (a : Asker) (start : Start) (before after : List Exchange) (x : Exchange) → AreAsked a start (before ++ x ∷ after) → Asks a start before x.request
asked-at a start before after x asked =
    subst (λ (l : List Exchange). Asks a start l x.request) (take-append_seam before (x ∷ after)) (asked (length before) x (at-length before after x))

pub asked-none : (a : Asker) (start : Start) → AreAsked a start []
asked-none a start n x there = absurd cc

-- an item of a list with one item more stands in the list, or is the one more
pushed-at : (xs : List Exchange) (x : Exchange) (n : ℕ) (y : Exchange) → slice_get (xs ++ x ∷ []) n ≡ Some y
    → ((slice_get xs n ≡ Some y) × (take n (xs ++ x ∷ []) ≡ take n xs)) ⊎ ((x ≡ y) × (take n (xs ++ x ∷ []) ≡ xs))
pushed-at [] x zero y e = let same : x ≡ y = cc in inr (same, refl)
pushed-at [] x (suc n) y e = absurd cc
pushed-at (z ∷ xs) x zero y e = inl (e, refl)
pushed-at (z ∷ xs) x (suc n) y e = behind (pushed-at xs x n y e)
  where
    behind : ((slice_get xs n ≡ Some y) × (take n (xs ++ x ∷ []) ≡ take n xs)) ⊎ ((x ≡ y) × (take n (xs ++ x ∷ []) ≡ xs))
        → ((slice_get xs n ≡ Some y) × (z ∷ take n (xs ++ x ∷ []) ≡ z ∷ take n xs)) ⊎ ((x ≡ y) × (z ∷ take n (xs ++ x ∷ []) ≡ z ∷ xs))
    behind (inl here) = inl (here.0, ap (λ (l : List Exchange). z ∷ l) here.1)
    behind (inr last) = inr (last.0, ap (λ (l : List Exchange). z ∷ l) last.1)

-- one exchange more, whose request is the next
pub asked-push : (a : Asker) (start : Start) (xs : List Exchange) (x : Exchange) → AreAsked a start xs → Asks a start xs x.request → AreAsked a start (xs ++ x ∷ [])
asked-push a start xs x asked next n y there = by_place (pushed-at xs x n y there)
  where
    by_place : ((slice_get xs n ≡ Some y) × (take n (xs ++ x ∷ []) ≡ take n xs)) ⊎ ((x ≡ y) × (take n (xs ++ x ∷ []) ≡ xs)) → Asks a start (take n (xs ++ x ∷ [])) y.request
    by_place (inl here) = subst (λ (l : List Exchange). Asks a start l y.request) (sym here.1) (asked n y here.0)
    by_place (inr last) = subst (λ (l : List Exchange). Asks a start l y.request) (sym last.1) (subst (λ (e : Exchange). Asks a start xs e.request) last.0 next)
