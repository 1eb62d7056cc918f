-- The table of the roots of empty subtrees, looked at row by row.
use Rattle.std.proofs.Common.{◌≡◌, ◌∙◌, ◌+◌, ◌*◌, ◌-◌, ◌<◌, ◌&&◌, ℕ, zero, suc, Bool, true, false, List, take, drop, refl, sym, ap, subst, arith, inl, inr}
use Rattle.std.specs.Prelude.{◌⊎◌, ◌≤◌, bytes_eq}
use Rattle.std.proofs.lemmas.Bool.{cases_lt}
use Rattle.std.proofs.lemmas.Slice.Eq.{bytes_eq-Decides}
use Rattle.sha2.specs.Sha256.{first_words, schedule, rounds, compress, hash_after, digest_bytes, sha256}
use Rattle.warg_proof.specs.Merkle.{branch_hash}
use Rattle.warg_proof.specs.MapTree.{empty_root}
use Rattle.warg_proof.specs.declared.empty_root.TheConstants.{EMPTY_ROOTS}

-- the row of a height
abbrev pub row : ℕ → List ℕ
row height = take 32 (drop (32 * height) EMPTY_ROOTS.now)

-- the row above is the hash of two like this one
abbrev is_below : ℕ → Bool
is_below height = bytes_eq (row (height + 1)) (branch_hash (row height) (row height))

-- so it is of as many rows from one on
unfoldable are_below : ℕ → ℕ → Bool
are_below from zero = true
are_below from (suc count) = is_below from && are_below (from + 1) count

both : (a b : Bool) → a && b ≡ true → (a ≡ true) × (b ≡ true)
both true true h = (refl, refl)
both true false h = absurd cc
both false b h = absurd cc

below_at : (count from k : ℕ) → are_below from count ≡ true → k < count → is_below (from + k) ≡ true
unfolding are_below
below_at zero from k all lt = absurd (omega (arith, lt))
below_at (suc count) from zero all lt = let same : from + 0 ≡ from = omega arith in subst (λ n. is_below n ≡ true) (sym same) (both (is_below from) (are_below (from + 1) count) all).0
below_at (suc count) from (suc k) all lt =
    let same : from + suc k ≡ (from + 1) + k = omega arith in
    subst (λ n. is_below n ≡ true) (sym same) (below_at count (from + 1) k (both (is_below from) (are_below (from + 1) count) all).1 (omega (arith, lt)))

-- computed, in four parts
first : are_below 0 64 ≡ true
unfolding first_words schedule rounds compress hash_after digest_bytes sha256 are_below
first = refl

second : are_below 64 64 ≡ true
unfolding first_words schedule rounds compress hash_after digest_bytes sha256 are_below
second = refl

third : are_below 128 64 ≡ true
unfolding first_words schedule rounds compress hash_after digest_bytes sha256 are_below
third = refl

fourth : are_below 192 63 ≡ true
unfolding first_words schedule rounds compress hash_after digest_bytes sha256 are_below
fourth = refl

-- each row but the last is below the next
below : (height : ℕ) → height < 255 → is_below height ≡ true
below height lt = by (cases_lt height 64) (cases_lt height 128) (cases_lt height 192)
  where
    from : (start count : ℕ) → are_below start count ≡ true → start ≤ height → height < start + count → is_below height ≡ true
    from start count all low high = let same : start + (height - start) ≡ height = omega (arith, low) in
        subst (λ n. is_below n ≡ true) same (below_at count start (height - start) all (omega (arith, low, high)))

    by : (height < 64) ⊎ (64 ≤ height) → (height < 128) ⊎ (128 ≤ height) → (height < 192) ⊎ (192 ≤ height) → is_below height ≡ true
    by (inl a) b c = from 0 64 first (omega arith) (omega (arith, a))
    by (inr a) (inl b) c = from 64 64 second a (omega (arith, b))
    by (inr a) (inr b) (inl c) = from 128 64 third b (omega (arith, c))
    by (inr a) (inr b) (inr c) = from 192 63 fourth c (omega (arith, lt))

-- a row is the root of an empty subtree of its height
pub row_is : (height : ℕ) → height < 256 → row height ≡ empty_root height
unfolding empty_root
row_is zero lt = refl
row_is (suc height) lt =
    let same : suc height ≡ height + 1 = omega arith in
    ap row same ∙ (bytes_eq-Decides (row (height + 1)) (branch_hash (row height) (row height))).0 (below height (omega (arith, lt)))
    ∙ ap (λ e. branch_hash e e) (row_is height (omega (arith, lt)))
