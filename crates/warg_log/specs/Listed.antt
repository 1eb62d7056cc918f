-- Listed signatures.
use Rattle.std.specs.Prelude.{◌≡◌, ℕ, List, Bool, false, ◌&&◌, bytes_eq, Contains}
use Rattle.std.specs.Cmp.Lexicographic.{slice_cmp}
use Rattle.std.specs.List.{list_any}
use Rattle.std.specs.Ordering.{ordering_then, nat_cmp}
use Rattle.std.specs.declared.cmp.Ordering.{Ordering}
use Rattle.sha2.specs.Sha256.{sha256}
use Rattle.warg_values.specs.Faults.{Schedule, one_more}

-- ---- a key, the digest of a text, and a signature

-- whether an entry of the list has this key, digest and signature
abbrev pub is_listed : List ℕ → List ℕ → List ℕ → List ℕ × List ℕ × List ℕ → Bool
is_listed key digest signature listed = bytes_eq listed.1 digest && (bytes_eq listed.0 key && bytes_eq listed.2 signature)

-- by the digest, then by the key, then by the signature
abbrev pub listed_cmp : List ℕ × List ℕ × List ℕ → List ℕ × List ℕ × List ℕ → Ordering
listed_cmp a b = ordering_then (slice_cmp nat_cmp a.1 b.1) (ordering_then (slice_cmp nat_cmp a.0 b.0) (slice_cmp nat_cmp a.2 b.2))

-- ---- the digest of a text, and a signature

-- whether an entry of the list has this digest and signature
abbrev pub is_signature_of : List ℕ → List ℕ → List ℕ × List ℕ → Bool
is_signature_of digest signature listed = bytes_eq listed.0 digest && bytes_eq listed.1 signature

-- whether a signature is listed for a text
abbrev pub is_signature_listed : List (List ℕ × List ℕ) → List ℕ → List ℕ → Bool
is_signature_listed listed text signature = list_any (is_signature_of (sha256 text) signature) listed

-- no signature is listed for a text
abbrev pub IsUnlisted : List (List ℕ × List ℕ) → List ℕ → Type 0
IsUnlisted listed text = (signature : List ℕ) → is_signature_listed listed text signature ≡ false

-- the next call is one that is to fail
abbrev pub IsDue : Schedule → Type 0
IsDue schedule = Contains schedule.failing (one_more schedule.calls)

-- what a signer of listed signatures holds: its key, the list, which calls are to fail, and how many did
pub record SignerHeld : Type 0 where
  pub key : List ℕ
  pub listed : List (List ℕ × List ℕ)
  pub schedule : Schedule
  pub faults : ℕ
