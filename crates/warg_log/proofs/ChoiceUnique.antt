-- The greatest of releases, none of a version twice, is one.
use Rattle.std.proofs.Common.{◌≡◌, ◌≢◌, ℕ, suc, Bool, true, false, cond, List, [], ◌∷◌, ◌⊎◌, Option, Some, None, Contains, option_map, refl, sym, ap, ◌∙◌, inl, inr, arith, subst}
use Rattle.std.specs.FinMap.{IsAntisymmetric, nat_cmp-IsAntisymmetric}
use Rattle.std.specs.List.{AllByRecursion}
use Rattle.std.specs.Ordering.{ordering_then, ordering_reverse}
use Rattle.std.specs.declared.cmp.Ordering.{Ordering}
use Rattle.std.specs.declared.cmp.Ordering.TheVariants.{Less, Equal, Greater}
use Rattle.std.proofs.lemmas.Bool.{false≢true}
use Rattle.std.proofs.lemmas.List.Elements.{Contains-append_cases, Contains-push_cases}
use Rattle.semver.specs.OrderLaws.{pre-anti, build-anti}
use Rattle.semver.specs.Parse.{Parts}
use Rattle.warg_log.specs.Choice.{version_cmp, IsGreatest}
use Rattle.warg_log.specs.History.{same_version}
use Rattle.warg_log.specs.Places.{AreDistinct, place_of, versions_of}
use Rattle.warg_log.proofs.ChoiceLaws.{version_total}
use Rattle.warg_log.proofs.ReleaseLaws.{parts_same, same_version-refl, some_is_none, no_more}

-- ---- versions that tie are equal

then_first : (r s : Ordering) → ordering_then r s ≡ Equal → r ≡ Equal
then_first Less s e = cc e
then_first Equal s e = refl
then_first Greater s e = cc e

then_second : (r s : Ordering) → ordering_then r s ≡ Equal → s ≡ Equal
then_second Less s e = cc e
then_second Equal s e = e
then_second Greater s e = cc e

version-anti : IsAntisymmetric version_cmp
version-anti v w e =
    let after_first = then_second _ _ e in
    let after_second = then_second _ _ after_first in
    let after_third = then_second _ _ after_second in
    parts_same v w (nat_cmp-IsAntisymmetric v.0 w.0 (then_first _ _ e)) (nat_cmp-IsAntisymmetric v.1 w.1 (then_first _ _ after_first)) (nat_cmp-IsAntisymmetric v.2 w.2 (then_first _ _ after_second))
    (pre-anti v.3 w.3 (then_first _ _ after_third)) (build-anti v.4 w.4 (then_second _ _ after_third))

neither_less : (o p : Ordering) → o ≡ ordering_reverse p → o ≢ Less → p ≢ Less → o ≡ Equal
neither_less Less p is a b = absurd (a refl)
neither_less Equal p is a b = refl
neither_less Greater Less is a b = absurd (b refl)
neither_less Greater Equal is a b = cc
neither_less Greater Greater is a b = cc

-- ---- a release among others

among : {X : Type 0} (x : X) (xs : List X) (y : X) → Contains (x ∷ xs) y → (x ≡ y) ⊎ Contains xs y
among x xs y is = elim (Contains-append_cases (x ∷ []) xs y is) [
  | inl here ↦ elim (Contains-push_cases [] x y here) [ inl none ↦ absurd (omega (arith, none.1)) | inr same ↦ inl same ]
  | inr there ↦ inr there
]

every_at : {X : Type 0} (P : X → Type 0) (xs : List X) (y : X) → AllByRecursion P xs → Contains xs y → P y
every_at P [] y all is = absurd (omega (arith, is.1))
every_at P (x ∷ xs) y all is = elim (among x xs y is) [ inl here ↦ subst P here all.0 | inr there ↦ every_at P xs y all.1 there ]

not_placed : (b : Bool) (o : Option ℕ) → cond b (Some 0) (option_map suc o) ≡ None → (b ≡ false) × (o ≡ None)
not_placed true o h = absurd (some_is_none h)
not_placed false o h = (refl, no_more o h)

absent : (v : Parts) (rs : List (Parts × Option (List ℕ))) (r : Parts × Option (List ℕ)) → place_of v (versions_of rs) ≡ None → Contains rs r → v ≡ r.0 → ⊥
absent v [] r none is same = omega (arith, is.1)
absent v (x ∷ rs) r none is same =
    let other = not_placed (same_version v x.0) (place_of v (versions_of rs)) none in
    elim (among x rs r is) [
      | inl here ↦ false≢true (sym other.0 ∙ ap (same_version v) (ap (λ (y : Parts × Option (List ℕ)). y.0) here ∙ sym same) ∙ same_version-refl v)
      | inr there ↦ absent v rs r other.1 there same
    ]

one_of_version : (rs : List (Parts × Option (List ℕ))) (r s : Parts × Option (List ℕ)) → AreDistinct (versions_of rs) → Contains rs r → Contains rs s → r.0 ≡ s.0 → r ≡ s
one_of_version [] r s distinct a b same = absurd (omega (arith, a.1))
one_of_version (x ∷ rs) r s distinct a b same = elim (among x rs r a) [
  | inl r_here ↦ elim (among x rs s b) [
    | inl s_here ↦ sym r_here ∙ s_here
    | inr s_there ↦ absurd (absent x.0 rs s distinct.0 s_there (ap (λ (y : Parts × Option (List ℕ)). y.0) r_here ∙ same))
  ]
  | inr r_there ↦ elim (among x rs s b) [
    | inl s_here ↦ absurd (absent x.0 rs r distinct.0 r_there (ap (λ (y : Parts × Option (List ℕ)). y.0) s_here ∙ sym same))
    | inr s_there ↦ one_of_version rs r s distinct.1 r_there s_there same
  ]
]

pub one_greatest : (passes : Parts × Option (List ℕ) → Bool) (rs : List (Parts × Option (List ℕ))) (r s : Option (Parts × Option (List ℕ))) → AreDistinct (versions_of rs) → IsGreatest passes rs r → IsGreatest passes rs s → r ≡ s
one_greatest passes rs None None distinct a b = refl
one_greatest passes rs None (Some s) distinct a b = absurd (false≢true (sym (every_at (λ x. passes x ≡ false) rs s a b.0) ∙ b.1))
one_greatest passes rs (Some r) None distinct a b = absurd (false≢true (sym (every_at (λ x. passes x ≡ false) rs r b a.0) ∙ a.1))
one_greatest passes rs (Some r) (Some s) distinct a b =
    let tie = neither_less (version_cmp r.0 s.0) (version_cmp s.0 r.0) (version_total.antisymm r.0 s.0) (every_at (λ x. passes x ≡ true → version_cmp r.0 x.0 ≢ Less) rs s a.2 b.0 b.1) (every_at (λ x. passes x ≡ true → version_cmp s.0 x.0 ≢ Less) rs r b.2 a.0 a.1) in
    ap Some (one_of_version rs r s distinct a.0 b.0 (version-anti r.0 s.0 tie))
