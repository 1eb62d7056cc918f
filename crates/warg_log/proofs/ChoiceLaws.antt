-- The best of releases, as one more is seen.
use Rattle.std.proofs.Common.{◌≡◌, ◌≢◌, ℕ, Bool, true, false, List, [], ◌∷◌, ◌++◌, Option, Some, None, cond, ◌&&◌, fold, refl, sym, ap, subst, ◌∙◌, append_assoc}
use Rattle.std.specs.List.{AllByRecursion}
use Rattle.std.specs.Cmp.{IsTotalOrder, nat_cmp_total, then_total, on_total, tied_itself}
use Rattle.std.specs.Ordering.{is_lt}
use Rattle.std.specs.declared.cmp.Ordering.{Ordering}
use Rattle.std.specs.declared.cmp.Ordering.TheVariants.{Less, Equal, Greater}
use Rattle.std.proofs.lemmas.Bool.{false≢true}
use Rattle.std.proofs.lemmas.List.{append-nil}
use Rattle.std.proofs.lemmas.List.Elements.{Contains-push, Contains-append_left}
use Rattle.semver.specs.OrderLaws.{pre_total, build_total}
use Rattle.semver.specs.Parse.{Parts}
use Rattle.warg_log.specs.Choice.{version_cmp, IsGreatest, better, greatest}

pub version_total : IsTotalOrder version_cmp
version_total = then_total (on_total (λ (v : Parts). v.0) nat_cmp_total) (then_total (on_total (λ (v : Parts). v.1) nat_cmp_total) (then_total (on_total (λ (v : Parts). v.2) nat_cmp_total)
    (then_total (on_total (λ (v : Parts). v.3) pre_total) (on_total (λ (v : Parts). v.4) build_total))))

every_push : {X : Type 0} (P : X → Type 0) (xs : List X) (x : X) → AllByRecursion P xs → P x → AllByRecursion P (xs ++ x ∷ [])
every_push P [] x all p = (p, tt)
every_push P (y ∷ xs) x all p = (all.0, every_push P xs x all.1 p)

every_weaker : {X : Type 0} (P Q : X → Type 0) → ((x : X) → P x → Q x) → (xs : List X) → AllByRecursion P xs → AllByRecursion Q xs
every_weaker P Q f [] all = tt
every_weaker P Q f (x ∷ xs) all = (f x all.0, every_weaker P Q f xs all.1)

less_not : (o : Ordering) → is_lt o ≡ false → o ≢ Less
less_not o h e = false≢true (sym h ∙ ap is_lt e)

less_is : (o : Ordering) → is_lt o ≡ true → o ≡ Less
less_is Less h = refl
less_is Equal h = absurd (false≢true h)
less_is Greater h = absurd (false≢true h)

not_itself : (v : Parts) → version_cmp v v ≢ Less
not_itself v e = false≢true (ap is_lt (sym (tied_itself version_total v) ∙ e))

-- a release that does not pass
pub missed : (passes : Parts × Option (List ℕ) → Bool) (rs : List (Parts × Option (List ℕ))) (best : Option (Parts × Option (List ℕ))) (r : Parts × Option (List ℕ)) → passes r ≡ false → IsGreatest passes rs best → IsGreatest passes (rs ++ r ∷ []) best
missed passes rs None r fails all = every_push (λ s. passes s ≡ false) rs r all fails
missed passes rs (Some b) r fails is =
    (Contains-append_left rs (r ∷ []) b is.0, is.1, every_push (λ s. passes s ≡ true → version_cmp b.0 s.0 ≢ Less) rs r is.2 (λ passed. absurd (false≢true (sym fails ∙ passed))))

-- the first that passes
pub first_found : (passes : Parts × Option (List ℕ) → Bool) (rs : List (Parts × Option (List ℕ))) (r : Parts × Option (List ℕ)) → passes r ≡ true → IsGreatest passes rs None → IsGreatest passes (rs ++ r ∷ []) (Some r)
first_found passes rs r passed all = (
  Contains-push rs r,
  passed,
  every_push (λ s. passes s ≡ true → version_cmp r.0 s.0 ≢ Less) rs r
      (every_weaker (λ s. passes s ≡ false) (λ s. passes s ≡ true → version_cmp r.0 s.0 ≢ Less) (λ s none some. absurd (false≢true (sym none ∙ some))) rs all)
      (λ same. not_itself r.0),
)

-- one that passes and is not better
pub kept : (passes : Parts × Option (List ℕ) → Bool) (rs : List (Parts × Option (List ℕ))) (b r : Parts × Option (List ℕ)) → is_lt (version_cmp b.0 r.0) ≡ false → IsGreatest passes rs (Some b) → IsGreatest passes (rs ++ r ∷ []) (Some b)
kept passes rs b r at_least is =
    (Contains-append_left rs (r ∷ []) b is.0, is.1, every_push (λ s. passes s ≡ true → version_cmp b.0 s.0 ≢ Less) rs r is.2 (λ passed. less_not (version_cmp b.0 r.0) at_least))

-- one that passes and is better
pub replaced : (passes : Parts × Option (List ℕ) → Bool) (rs : List (Parts × Option (List ℕ))) (b r : Parts × Option (List ℕ)) → passes r ≡ true → is_lt (version_cmp b.0 r.0) ≡ true → IsGreatest passes rs (Some b) → IsGreatest passes (rs ++ r ∷ []) (Some r)
replaced passes rs b r passed above is = (
  Contains-push rs r,
  passed,
  every_push (λ s. passes s ≡ true → version_cmp r.0 s.0 ≢ Less) rs r
      (every_weaker (λ s. passes s ≡ true → version_cmp b.0 s.0 ≢ Less) (λ s. passes s ≡ true → version_cmp r.0 s.0 ≢ Less)
      (λ s least can over. least can (version_total.trans b.0 r.0 s.0 (less_is (version_cmp b.0 r.0) above) over)) rs is.2)
      (λ same. not_itself r.0),
)

-- the better of what was found before and one more
pub better_is : (passes : Parts × Option (List ℕ) → Bool) (rs : List (Parts × Option (List ℕ))) (best : Option (Parts × Option (List ℕ))) (r : Parts × Option (List ℕ)) → IsGreatest passes rs best → IsGreatest passes (rs ++ r ∷ []) (better passes best r)
better_is passes rs None r is = by (passes r) refl
  where
    by : (b : Bool) → passes r ≡ b → IsGreatest passes (rs ++ r ∷ []) (cond b (Some r) None)
    by true e = first_found passes rs r e is
    by false e = missed passes rs None r e is
better_is passes rs (Some b) r is = by (passes r) (is_lt (version_cmp b.0 r.0)) refl refl
  where
    by : (p above : Bool) → passes r ≡ p → is_lt (version_cmp b.0 r.0) ≡ above → IsGreatest passes (rs ++ r ∷ []) (cond (p && above) (Some r) (Some b))
    by true true e above = replaced passes rs b r e above is
    by true false e above = kept passes rs b r above is
    by false above e is_above = missed passes rs (Some b) r e is

-- what is found from the first release on is the greatest
pub greatest_from : (passes : Parts × Option (List ℕ) → Bool) (seen rs : List (Parts × Option (List ℕ))) (best : Option (Parts × Option (List ℕ))) → IsGreatest passes seen best → IsGreatest passes (seen ++ rs) (fold (better passes) best rs)
greatest_from passes seen [] best is = subst (λ xs. IsGreatest passes xs best) (sym (append-nil seen)) is
greatest_from passes seen (r ∷ rs) best is =
    subst (λ xs. IsGreatest passes xs (fold (better passes) (better passes best r) rs)) (append_assoc seen (r ∷ []) rs)
    (greatest_from passes (seen ++ r ∷ []) rs (better passes best r) (better_is passes seen best r is))

pub greatest_is : (passes : Parts × Option (List ℕ) → Bool) (rs : List (Parts × Option (List ℕ))) → IsGreatest passes rs (greatest passes rs)
greatest_is passes rs = greatest_from passes [] rs None tt
