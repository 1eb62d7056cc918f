-- Bits of a path that are set one after the other, and roots of empty subtrees.
use Rattle.std.proofs.Common.{◌≡◌, ℕ, zero, suc, ◌+◌, ◌-◌, ◌*◌, ◌/◌, ◌%◌, ◌^◌, ◌<◌, ◌≤◌, ◌==◌, ◌||◌, eqb, Bool, true, false, List, [], ◌∷◌, ◌++◌, length, get_or, set, take, replicate, bit_or, refl, sym, ap, subst, ◌∙◌, inl, inr, add-one, arith}
use Rattle.std.specs.Int.{w8}
use Rattle.std.proofs.lemmas.Bool.{cases_Bool, cases_lt, eqb-true, eqb-false, eq-eqb}
use Rattle.std.proofs.lemmas.List.{get_or-set_same, get_or-set_other, get_or_append_left, length-set, take_more}
use Rattle.std.proofs.Math.Seq.{get_or-append_seam}
use Rattle.std.proofs.lemmas.Nat.{or_of_8}
use Rattle.std.proofs.lemmas.Nat.Bits.{bit_at-zero, bit_at_set_same, bit_at_set_other}
use Rattle.std.proofs.lemmas.List.Folds.{list_any-append}
use Rattle.std.specs.List.{list_any}
use Rattle.warg_hash.specs.Hash.{IsDigest}
use Rattle.warg_proof.specs.MapTree.{empty_root, has_bit}
use Rattle.warg_proof.specs.Merkle.{branch_hash}

or_true : (b : Bool) → true ≡ (b || true)
or_true true = refl
or_true false = refl

or_false : (b : Bool) → b ≡ (b || false)
or_false true = refl
or_false false = refl

differs : (a b : ℕ) → (a ≡ b → ⊥) → (a == b) ≡ false
differs a b ne = elim (cases_Bool (a == b)) [ inl same ↦ absurd (ne (eqb-true a b same)) | inr other ↦ other ]

-- the bytes with one bit more
abbrev pub with_bit : List ℕ → ℕ → List ℕ
with_bit given e = set given (e / 8) (bit_or (get_or given (e / 8) 0) (1 * 2 ^ (7 - e % 8) % 2 ^ 8))

pub marked : (given : List ℕ) (e d : ℕ) → e / 8 < length given → has_bit (with_bit given e) d ≡ (has_bit given d || (e == d))
marked given e d lt =
    let old = get_or given (e / 8) 0 in
    let new = bit_or old (1 * 2 ^ (7 - e % 8) % 2 ^ 8) in
    let within : 7 - e % 8 < 8 = omega arith in
    elim (cases_Bool (e / 8 == d / 8)) [
      | inl same ↦
          let at : e / 8 ≡ d / 8 = eqb-true (e / 8) (d / 8) same in
          let byte : get_or (with_bit given e) (d / 8) 0 ≡ new = ap (λ (j : ℕ). get_or (with_bit given e) j 0) (sym at) ∙ get_or-set_same given (e / 8) new 0 lt in
          elim (cases_Bool (e % 8 == d % 8)) [
            | inl bit ↦
                let place : e % 8 ≡ d % 8 = eqb-true (e % 8) (d % 8) bit in
                let is : e ≡ d = omega arith in
                let set_bit : has_bit (with_bit given e) d ≡ true =
                ap (λ (x : ℕ). eqb (x / 2 ^ (7 - d % 8) % 2) 1) byte ∙ ap (λ (k : ℕ). eqb (new / 2 ^ (7 - k) % 2) 1) (sym place) ∙ ap (λ (n : ℕ). eqb n 1) (bit_at_set_same w8 old (7 - e % 8) within) in
                set_bit ∙ or_true (has_bit given d) ∙ ap (λ (b : Bool). has_bit given d || b) (sym (eq-eqb e d is))
            | inr other ↦
                let apart : e % 8 ≡ d % 8 → ⊥ = eqb-false (e % 8) (d % 8) other in
                let ne : 7 - d % 8 ≡ 7 - e % 8 → ⊥ = λ h. apart (omega arith) in
                let kept : has_bit (with_bit given e) d ≡ has_bit given d =
                ap (λ (x : ℕ). eqb (x / 2 ^ (7 - d % 8) % 2) 1) byte ∙ ap (λ (n : ℕ). eqb n 1) (bit_at_set_other w8 old (7 - e % 8) within (7 - d % 8) ne) ∙ ap (λ (j : ℕ). eqb (get_or given j 0 / 2 ^ (7 - d % 8) % 2) 1) at in
                kept ∙ or_false (has_bit given d) ∙ ap (λ (b : Bool). has_bit given d || b) (sym (differs e d (λ h. apart (ap (λ (n : ℕ). n % 8) h))))
          ]
      | inr other ↦
          let apart : e / 8 ≡ d / 8 → ⊥ = eqb-false (e / 8) (d / 8) other in
          let kept : has_bit (with_bit given e) d ≡ has_bit given d = ap (λ (x : ℕ). eqb (x / 2 ^ (7 - d % 8) % 2) 1) (get_or-set_other given (e / 8) (d / 8) new 0 (λ h. apart (sym h))) in
          kept ∙ or_false (has_bit given d) ∙ ap (λ (b : Bool). has_bit given d || b) (sym (differs e d (λ h. apart (ap (λ (n : ℕ). n / 8) h))))
    ]

-- ---- marks that a loop sets

abbrev pub Way : Type 0
Way = List (ℕ × List ℕ)

abbrev none : ℕ
none = 0

zero_at : (n k : ℕ) → get_or (replicate n none) k none ≡ none
zero_at zero k = refl
zero_at (suc n) zero = refl
zero_at (suc n) (suc k) = zero_at n k

-- bytes of zeros have no bit
pub no_marks : (n d : ℕ) → has_bit (replicate n 0) d ≡ false
no_marks n d = ap (λ (x : ℕ). eqb (x / 2 ^ (7 - d % 8) % 2) 1) (zero_at n (d / 8)) ∙ ap (λ (x : ℕ). eqb x 1) (bit_at-zero (7 - d % 8))

pub no_digit : IsDigest (replicate 32 0)
no_digit = (refl, λ i. let is = zero_at 32 i in omega (arith, is))

pub marks_more : (way : Way) (i d : ℕ) → i < length way → (list_any (λ s. s.0 == d) (take i way) || ((get_or way i (0, [])).0 == d)) ≡ list_any (λ s. s.0 == d) (take (i + 1) way)
marks_more way i d lt =
    let s : ℕ × List ℕ = get_or way i (0, []) in
    sym (ap (list_any (λ (s : ℕ × List ℕ). s.0 == d)) (take_more way i (0, []) lt) ∙ list_any-append (λ s. s.0 == d) (take i way) (s ∷ [])
    ∙ ap (λ (b : Bool). list_any (λ (s : ℕ × List ℕ). s.0 == d) (take i way) || b) (sym (or_false (s.0 == d))))

-- a byte with one bit more is a byte
bit_small : (a k : ℕ) → a < 256 → bit_or a (1 * 2 ^ k % 256) < 256
bit_small a k small = or_of_8 a (1 * 2 ^ k % 256) small (omega arith)

pub digest_with_bit : (given : List ℕ) (e : ℕ) → e / 8 < length given → IsDigest given → IsDigest (with_bit given e)
digest_with_bit given e lt is = (
  length-set given (e / 8) (bit_or (get_or given (e / 8) 0) (1 * 2 ^ (7 - e % 8) % 256)) ∙ is.0,
  λ i.
      let new = bit_or (get_or given (e / 8) 0) (1 * 2 ^ (7 - e % 8) % 256) in
      elim (cases_Bool (i == e / 8)) [
        | inl here ↦ subst (λ (x : ℕ). x < 256) (sym (ap (λ (j : ℕ). get_or (with_bit given e) j 0) (eqb-true i (e / 8) here) ∙ get_or-set_same given (e / 8) new 0 lt)) (bit_small (get_or given (e / 8) 0) (7 - e % 8) (is.1 (e / 8)))
        | inr there ↦ subst (λ (x : ℕ). x < 256) (sym (get_or-set_other given (e / 8) i new 0 (eqb-false i (e / 8) there))) (is.1 i)
      ],
)

-- ---- roots of empty subtrees

next_empty : (height : ℕ) → branch_hash (empty_root height) (empty_root height) ≡ empty_root (height + 1)
unfolding empty_root
next_empty height = rw add-one refl

-- one root more
pub root_more : (roots : List (List ℕ)) (root : List ℕ) (height : ℕ) → length roots ≡ height + 1 → ((h : ℕ) → h ≤ height → get_or roots h [] ≡ empty_root h) → root ≡ branch_hash (get_or roots height []) (get_or roots height [])
    → (h : ℕ) → h ≤ height + 1 → get_or (roots ++ root ∷ []) h [] ≡ empty_root h
root_more roots root height len each is h le = elim (cases_lt h (height + 1)) [
  | inl low ↦ get_or_append_left roots (root ∷ []) [] h (omega arith) ∙ each h (omega arith)
  | inr high ↦
      let at : h ≡ length roots = omega arith in
      let last : h ≡ height + 1 = omega arith in
      ap (λ (n : ℕ). get_or (roots ++ root ∷ []) n []) at ∙ get_or-append_seam roots root [] [] ∙ is
      ∙ ap (λ (r : List ℕ). branch_hash r r) (each height (omega arith)) ∙ next_empty height ∙ ap empty_root (sym last)
]

pub first_empty : (h : ℕ) → h ≤ 0 → get_or (replicate 32 none ∷ []) h [] ≡ empty_root h
unfolding empty_root
first_empty zero le = refl
first_empty (suc h) le = absurd (omega arith)
