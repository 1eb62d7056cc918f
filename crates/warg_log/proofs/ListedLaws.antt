-- Searches in lists of signatures.
use Rattle.std.proofs.Common.{◌≡◌, ◌⊎◌, ℕ, ◌<◌, true, false, Bool, List, [], length, get_or, arith, refl, sym, ap, ◌∙◌, inl, inr, Result, Ok, Err}
use Rattle.std.specs.Prelude.{is_ok}
use Rattle.std.specs.Cmp.{IsTotalOrder, IsStrictWeakOrder, both_tied}
use Rattle.std.specs.Cmp.Lexicographic.{slice_cmp}
use Rattle.std.specs.List.{list_any}
use Rattle.std.specs.List.Sorted.{IsPartitionPoint, IsBinarySearchResult, IsSearchInRange, IsSorted, IsSortedByKey}
use Rattle.std.specs.Ordering.{nat_cmp, is_eq, is_lt}
use Rattle.std.specs.declared.cmp.Ordering.{Ordering}
use Rattle.std.specs.declared.cmp.Ordering.TheVariants.{Less, Greater}
use Rattle.std.proofs.lemmas.Bool.{cases_lt}
use Rattle.std.proofs.lemmas.Cmp.{nat_list_cmp_total, on_total, then_total}
use Rattle.std.proofs.lemmas.List.Folds.{list_any_at, list_any_none}
use Rattle.std.proofs.lemmas.List.Sorted.{ranks_by, searchable_from_sorted}
use Rattle.std.proofs.lemmas.Map.Text.{is_eq-slice_cmp}
use Rattle.std.proofs.lemmas.Slice.Eq.{bytes_eq-Decides}
use Rattle.warg_log.specs.Listed.{is_listed, listed_cmp, is_signature_of}

-- a search that ends between two elements passes over none
missing : {X : Type 0} (ord : X → Ordering) (p : X → Bool) → ((x : X) → is_eq (ord x) ≡ false → p x ≡ false) → (xs : List X) (i : ℕ)
    → IsPartitionPoint (λ y. ord y ≡ Less) (λ y. ord y ≡ Greater) xs i → list_any p xs ≡ false
missing ord p other xs i parts = list_any_none p xs (λ k d lt. elim (cases_lt k i) [
  | inl below ↦ other (get_or xs k d) (ap is_eq (parts.0 k d (omega arith) below))
  | inr above ↦ other (get_or xs k d) (ap is_eq (parts.1 k d above lt))
])

-- ---- a key, a digest and a signature

listed_total : IsTotalOrder listed_cmp
listed_total = then_total (on_total (λ (x : List ℕ × List ℕ × List ℕ). x.1) nat_list_cmp_total) (then_total (on_total (λ (x : List ℕ × List ℕ × List ℕ). x.0) nat_list_cmp_total) (on_total (λ (x : List ℕ × List ℕ × List ℕ). x.2) nat_list_cmp_total))

pub listed_weak : IsStrictWeakOrder (λ x y. is_lt (listed_cmp x y))
listed_weak = ranks_by listed_total (λ x. x)

listed_tie : (key digest signature : List ℕ) (x : List ℕ × List ℕ × List ℕ) → is_listed key digest signature x ≡ is_eq (listed_cmp x (key, digest, signature))
listed_tie key digest signature x =
    both_tied _ _ _ _ (sym (is_eq-slice_cmp x.1 digest)) (both_tied _ _ _ _ (sym (is_eq-slice_cmp x.0 key)) (sym (is_eq-slice_cmp x.2 signature)))

pub searched : (key digest signature : List ℕ) (xs : List (List ℕ × List ℕ × List ℕ)) (r : Result ℕ ℕ) → IsSorted listed_cmp xs → IsSearchInRange r (length xs)
    → IsBinarySearchResult (λ x. listed_cmp x (key, digest, signature)) xs r → is_ok r ≡ list_any (is_listed key digest signature) xs
searched key digest signature xs (Ok i) up lt equal = sym (list_any_at (is_listed key digest signature) xs i ([], [], []) lt
    (listed_tie key digest signature (get_or xs i ([], [], [])) ∙ ap is_eq (equal ([], [], []))))
searched key digest signature xs (Err i) up le parts = sym (missing (λ x. listed_cmp x (key, digest, signature)) (is_listed key digest signature) (λ x other. listed_tie key digest signature x ∙ other) xs i
    (parts (searchable_from_sorted listed_total (λ x. x) xs (key, digest, signature) up)))

-- ---- a digest and a signature

other_digest : (digest signature : List ℕ) (x : List ℕ × List ℕ) → is_eq (slice_cmp nat_cmp x.0 digest) ≡ false → is_signature_of digest signature x ≡ false
other_digest digest signature x other = rw (sym (is_eq-slice_cmp x.0 digest) ∙ other) refl

pub digest_missing : (digest : List ℕ) (xs : List (List ℕ × List ℕ)) (i : ℕ) → IsSortedByKey (λ x. x.0) (slice_cmp nat_cmp) xs → IsBinarySearchResult (λ x. slice_cmp nat_cmp x.0 digest) xs (Err i)
    → (signature : List ℕ) → list_any (is_signature_of digest signature) xs ≡ false
digest_missing digest xs i up parts signature =
    missing (λ x. slice_cmp nat_cmp x.0 digest) (is_signature_of digest signature) (other_digest digest signature) xs i (parts (searchable_from_sorted nat_list_cmp_total (λ x. x.0) xs digest up))

pub digest_found : (digest : List ℕ) (xs : List (List ℕ × List ℕ)) (i : ℕ) (d : List ℕ × List ℕ) → i < length xs → IsBinarySearchResult (λ x. slice_cmp nat_cmp x.0 digest) xs (Ok i)
    → list_any (is_signature_of digest (get_or xs i d).1) xs ≡ true
digest_found digest xs i d lt equal = list_any_at (is_signature_of digest (get_or xs i d).1) xs i d lt
    (rw (sym (is_eq-slice_cmp (get_or xs i d).0 digest) ∙ ap is_eq (equal d)) ((bytes_eq-Decides (get_or xs i d).1 (get_or xs i d).1).1 refl))

-- none of these holds
pub never : {P Q R : Type 0} → (P → ⊥) → (Q → ⊥) → (R → ⊥) → (P → Q ⊎ R) × (Q ⊎ R → P)
never p q r = (λ h. absurd (p h), λ h. elim h [ inl a ↦ absurd (q a) | inr b ↦ absurd (r b) ])
