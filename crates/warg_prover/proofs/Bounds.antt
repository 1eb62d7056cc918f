-- The nodes that proofs over a log need are whole nodes of the log.
use Rattle.std.proofs.Common.{◌≡◌, ℕ, zero, suc, ◌+◌, ◌-◌, ◌*◌, ◌^◌, ◌<◌, ◌≤◌, List, [], ◌∷◌, ◌++◌, sym, ap, subst, ◌∙◌, inl, inr, arith}
use Rattle.std.specs.List.{AllByRecursion}
use Rattle.std.proofs.Math.Nat.{pow-suc}
use Rattle.std.proofs.lemmas.Bool.{cases_lt, cases_eq}
use Rattle.std.proofs.lemmas.Nat.{pow_pos}
use Rattle.warg_proof.specs.LogTree.{ranges_beside, ranges_joining}
use Rattle.warg_proof.specs.TrueProofs.{needed_within}
use Rattle.warg_prover.specs.Places.{IsPlaceOf}
use Rattle.warg_prover.proofs.Steps.{needed-less, needed-whole, needed-split, beside, beside-less, beside-left, beside-right, joining, joining-less, joining-whole, joining-right, joining-left}

pub all_both : {A : Type 0} (P : A → Type 0) (xs ys : List A) → AllByRecursion P xs → AllByRecursion P ys → AllByRecursion P (xs ++ ys)
all_both P [] ys h k = k
all_both P (x ∷ xs) ys h k = (h.0, all_both P xs ys h.1 k)

-- ---- parts of a range

pub start_left : (level place : ℕ) → place * 2 ^ suc level ≡ 2 * place * 2 ^ level
start_left level place = let same : place * (2 ^ level * 2) ≡ 2 * place * 2 ^ level = omega arith in ap (λ (n : ℕ). place * n) (pow-suc 2 level) ∙ same

pub start_right : (level place : ℕ) → place * 2 ^ suc level + 2 ^ level ≡ (2 * place + 1) * 2 ^ level
start_right level place = omega (arith, start_left level place)

within_left : (level place count total : ℕ) → place * 2 ^ suc level + count ≤ total → 2 ^ level ≤ count → 2 * place * 2 ^ level + 2 ^ level ≤ total
within_left level place count total le lt = omega (arith, start_left level place)

within_right : (level place count total : ℕ) → place * 2 ^ suc level + count ≤ total → 2 ^ level ≤ count → (2 * place + 1) * 2 ^ level + (count - 2 ^ level) ≤ total
within_right level place count total le lt = omega (arith, start_right level place)

within_low : (level place count total : ℕ) → place * 2 ^ suc level + count ≤ total → 2 * place * 2 ^ level + count ≤ total
within_low level place count total le = omega (arith, start_left level place)

-- ---- nodes of a log of so many entries, up to a level

module _ (top total : ℕ) where
  record Below (at : ℕ × ℕ) : Type 0 where
    low : at.0 ≤ top
    within : at.1 * 2 ^ at.0 + 2 ^ at.0 ≤ total

  needed_below : (level place count : ℕ) → level ≤ top → 0 < count → count ≤ 2 ^ level → place * 2 ^ level + count ≤ total → AllByRecursion Below (needed_within level place count)
  unfolding needed_within
  needed_below zero place count low positive few within = (record { low = low; within = omega arith }, tt)
  needed_below (suc level) place count low positive few within =
      elim (cases_lt (2 ^ level) count) [
        | inl lt ↦ elim (cases_eq count (2 ^ suc level)) [
          | inl whole ↦ subst (AllByRecursion Below) (sym (needed-whole level place count lt whole)) (record { low = low; within = omega arith }, tt)
          | inr other ↦ subst (AllByRecursion Below) (sym (needed-split level place count lt other)) (
              all_both Below (needed_within level (2 * place) (2 ^ level)) (needed_within level (2 * place + 1) (count - 2 ^ level))
              (needed_below level (2 * place) (2 ^ level) (omega arith) (pow_pos level) (omega arith) (within_left level place count total within (omega arith)))
              (needed_below level (2 * place + 1) (count - 2 ^ level) (omega arith) (omega arith) (omega (arith, pow-suc 2 level)) (within_right level place count total within (omega arith)))
              )
        ]
        | inr less ↦ subst (AllByRecursion Below) (sym (needed-less level place count less)) (needed_below level (2 * place) count (omega arith) positive less (within_low level place count total within))
      ]

  beside_below : (level place count index : ℕ) → level ≤ top → count ≤ 2 ^ level → place * 2 ^ level + count ≤ total → index < count → AllByRecursion Below (beside level place count index)
  unfolding ranges_beside
  beside_below zero place count index low few within inside = tt
  beside_below (suc level) place count index low few within inside =
      elim (cases_lt (2 ^ level) count) [
        | inl lt ↦ elim (cases_lt index (2 ^ level)) [
          | inl here ↦ subst (AllByRecursion Below) (sym (beside-left level place count index lt here)) (
              all_both Below (needed_within level (2 * place + 1) (count - 2 ^ level)) (beside level (2 * place) (2 ^ level) index)
              (needed_below level (2 * place + 1) (count - 2 ^ level) (omega arith) (omega arith) (omega (arith, pow-suc 2 level)) (within_right level place count total within (omega arith)))
              (beside_below level (2 * place) (2 ^ level) index (omega arith) (omega arith) (within_left level place count total within (omega arith)) here)
              )
          | inr there ↦ subst (AllByRecursion Below) (sym (beside-right level place count index lt there)) (
              all_both Below (needed_within level (2 * place) (2 ^ level)) (beside level (2 * place + 1) (count - 2 ^ level) (index - 2 ^ level))
              (needed_below level (2 * place) (2 ^ level) (omega arith) (pow_pos level) (omega arith) (within_left level place count total within (omega arith)))
              (beside_below level (2 * place + 1) (count - 2 ^ level) (index - 2 ^ level) (omega arith) (omega (arith, pow-suc 2 level)) (within_right level place count total within (omega arith)) (omega arith))
              )
        ]
        | inr less ↦ subst (AllByRecursion Below) (sym (beside-less level place count index less)) (beside_below level (2 * place) count index (omega arith) less (within_low level place count total within) inside)
      ]

  joining_below : (level place old count : ℕ) → level ≤ top → 0 < count → count ≤ 2 ^ level → place * 2 ^ level + count ≤ total → AllByRecursion Below (joining level place old count)
  unfolding ranges_joining
  joining_below zero place old count low positive few within = all_both Below (needed_within 0 place count) [] (needed_below 0 place count low positive few within) tt
  joining_below (suc level) place old count low positive few within =
      elim (cases_lt (2 ^ level) count) [
        | inl lt ↦ elim (cases_eq old count) [
          | inl same ↦ subst (AllByRecursion Below) (sym (joining-whole level place old count lt same)) (all_both Below (needed_within (suc level) place count) [] (needed_below (suc level) place count low positive few within) tt)
          | inr other ↦ elim (cases_lt (2 ^ level) old) [
            | inl past ↦ subst (AllByRecursion Below) (sym (joining-right level place old count lt other past)) (
                all_both Below (needed_within level (2 * place) (2 ^ level)) (joining level (2 * place + 1) (old - 2 ^ level) (count - 2 ^ level))
                (needed_below level (2 * place) (2 ^ level) (omega arith) (pow_pos level) (omega arith) (within_left level place count total within (omega arith)))
                (joining_below level (2 * place + 1) (old - 2 ^ level) (count - 2 ^ level) (omega arith) (omega arith) (omega (arith, pow-suc 2 level)) (within_right level place count total within (omega arith)))
                )
            | inr upto ↦ subst (AllByRecursion Below) (sym (joining-left level place old count lt other upto)) (
                all_both Below (needed_within level (2 * place + 1) (count - 2 ^ level)) (joining level (2 * place) old (2 ^ level))
                (needed_below level (2 * place + 1) (count - 2 ^ level) (omega arith) (omega arith) (omega (arith, pow-suc 2 level)) (within_right level place count total within (omega arith)))
                (joining_below level (2 * place) old (2 ^ level) (omega arith) (pow_pos level) (omega arith) (within_left level place count total within (omega arith)))
                )
          ]
        ]
        | inr less ↦ subst (AllByRecursion Below) (sym (joining-less level place old count less)) (joining_below level (2 * place) old count (omega arith) positive less (within_low level place count total within))
      ]

-- ---- the whole log

place_of : (total : ℕ) → total < 2 ^ 64 → (at : ℕ × ℕ) → Below 64 total at → IsPlaceOf total at
place_of total fits at is =
    let low = is.low in
    let within = is.within in
    let level : at.0 < 64 = elim (cases_lt at.0 64) [
      | inl lt ↦ lt
      | inr ge ↦ let top : at.0 ≡ 64 = omega arith in let whole : at.1 * 2 ^ 64 + 2 ^ 64 ≤ total = subst (λ (n : ℕ). at.1 * 2 ^ n + 2 ^ n ≤ total) top within in absurd (omega arith)
    ] in
    record { level = level; within = within }

places_of : (total : ℕ) → total < 2 ^ 64 → (places : List (ℕ × ℕ)) → AllByRecursion (Below 64 total) places → AllByRecursion (IsPlaceOf total) places
places_of total fits [] h = tt
places_of total fits (at ∷ places) h = (place_of total fits at h.0, places_of total fits places h.1)

pub beside_places : (count index : ℕ) → count < 2 ^ 64 → index < count → AllByRecursion (IsPlaceOf count) (beside 64 0 count index)
beside_places count index fits inside = places_of count fits (beside 64 0 count index) (beside_below 64 count 64 0 count index (omega arith) (omega arith) (omega arith) inside)

pub joining_places : (old count : ℕ) → count < 2 ^ 64 → 0 < count → AllByRecursion (IsPlaceOf count) (joining 64 0 old count)
joining_places old count fits positive = places_of count fits (joining 64 0 old count) (joining_below 64 count 64 0 old count (omega arith) positive (omega arith) (omega arith))
