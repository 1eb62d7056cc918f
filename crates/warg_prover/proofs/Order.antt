-- The order of places.
use Rattle.std.proofs.Common.{◌≡◌, ◌<◌, ℕ, Bool, true, eqb, ltb, ◌&&◌, Ordering, refl, sym, ap, subst, ◌∙◌, inl, inr, arith}
use Rattle.std.specs.Cmp.{IsTotalOrder, IsEquivalence, then_total, on_total, nat_cmp_total}
use Rattle.std.specs.Ordering.{nat_cmp, ordering_then, eq_by_cmp, is_eq}
use Rattle.std.specs.declared.cmp.Ordering.TheVariants.{Less, Equal, Greater}
use Rattle.std.proofs.lemmas.Bool.{cases_order, and_parts, cond-true, cond-false, lt-ltb, le-ltb, eq-eqb, ne_eqb, eqb-true}
use Rattle.std.proofs.lemmas.Cmp.{eq_by_cmp_equiv}
use Rattle.warg_prover.specs.Places.{place_cmp}

pub place_cmp_total : IsTotalOrder place_cmp
place_cmp_total = then_total (on_total (λ (x : ℕ × ℕ). x.0) nat_cmp_total) (on_total (λ (x : ℕ × ℕ). x.1) nat_cmp_total)

-- whether two places are the same
abbrev pub place_eq : ℕ × ℕ → ℕ × ℕ → Bool
place_eq a b = eqb a.0 b.0 && eqb a.1 b.1

greater : (x y : ℕ) → y < x → nat_cmp x y ≡ Greater
greater x y lt = cond-false (ltb x y) _ _ (le-ltb _ _ (omega arith)) ∙ cond-false (eqb x y) _ _ (ne_eqb _ _ (λ e. omega arith))

tied : (x y : ℕ) → x ≡ y → nat_cmp x y ≡ Equal
tied x y e = cond-false (ltb x y) _ _ (le-ltb _ _ (omega arith)) ∙ cond-true (eqb x y) _ _ (eq-eqb _ _ e)

same_number : (x y : ℕ) → eqb x y ≡ is_eq (nat_cmp x y)
same_number x y =
    elim (cases_order x y) [
      | inl same ↦ eq-eqb x y same ∙ sym (ap is_eq (tied x y same))
      | inr apart ↦ elim apart [
        | inl lt ↦ ne_eqb x y (λ e. omega arith) ∙ sym (ap is_eq (cond-true (ltb x y) _ _ (lt-ltb _ _ lt)))
        | inr gt ↦ ne_eqb x y (λ e. omega arith) ∙ sym (ap is_eq (greater x y gt))
      ]
    ]

both_equal : (first second : Ordering) → (is_eq first && is_eq second) ≡ is_eq (ordering_then first second)
both_equal Less second = refl
both_equal Equal second = refl
both_equal Greater second = refl

pub place_eq_is : (a b : ℕ × ℕ) → place_eq a b ≡ eq_by_cmp place_cmp a b
place_eq_is a b =
    ap (λ (t : Bool). t && eqb a.1 b.1) (same_number a.0 b.0)
    ∙ ap (λ (t : Bool). is_eq (nat_cmp a.0 b.0) && t) (same_number a.1 b.1)
    ∙ both_equal (nat_cmp a.0 b.0) (nat_cmp a.1 b.1)

pub place_eq_equiv : IsEquivalence place_eq
place_eq_equiv =
    let same : eq_by_cmp place_cmp ≡ place_eq = λ i a b. sym (place_eq_is a b) i in
    subst IsEquivalence same (eq_by_cmp_equiv place_cmp_total)

pub place_eq_exact : (a b : ℕ × ℕ) → place_eq a b ≡ true → a ≡ b
place_eq_exact a b e =
    let both = and_parts (eqb a.0 b.0) (eqb a.1 b.1) e in
    let first = eqb-true _ _ both.0 in
    let second = eqb-true _ _ both.1 in
    λ i. (first i, second i)
