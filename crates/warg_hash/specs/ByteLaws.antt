-- Laws of byte strings: they are joined to byte strings, and a SHA-256 is a digest.
use Rattle.std.proofs.Common.{ℕ, zero, suc, ◌<◌, List, [], ◌∷◌, ◌++◌, get_or, arith}
use Rattle.std.specs.Int.{w32, to_be_bytes, bytes_high_first}
use Rattle.sha2.specs.Sha256.{sha256, digest_bytes}
use Rattle.sha2.proofs.Facts256.{length-sha256}
use Rattle.hex.specs.Hex.{IsBytes}
use Rattle.warg_hash.specs.Hash.{IsDigest}

pub no_bytes : IsBytes []
no_bytes i = omega arith

pub bytes-cons : (b : ℕ) (bytes : List ℕ) → b < 256 → IsBytes bytes → IsBytes (b ∷ bytes)
bytes-cons b bytes small h zero = small
bytes-cons b bytes small h (suc i) = h i

pub bytes-append : (xs ys : List ℕ) → IsBytes xs → IsBytes ys → IsBytes (xs ++ ys)
bytes-append [] ys h k i = k i
bytes-append (x ∷ xs) ys h k zero = h zero
bytes-append (x ∷ xs) ys h k (suc i) = bytes-append xs ys (λ j. h (suc j)) k i

bytes-high_first : (k n : ℕ) → IsBytes (bytes_high_first k n)
bytes-high_first zero n i = omega arith
bytes-high_first (suc zero) n zero = omega arith
bytes-high_first (suc (suc k)) n zero = omega arith
bytes-high_first (suc k) n (suc i) = bytes-high_first k n i

bytes-digest : (words : List ℕ) (n : ℕ) → IsBytes (digest_bytes words n)
unfolding digest_bytes
bytes-digest words zero = no_bytes
bytes-digest words (suc n) = bytes-append (digest_bytes words n) (to_be_bytes w32 (get_or words n 0)) (bytes-digest words n) (bytes-high_first 4 (get_or words n 0))

bytes-sha256 : (m : List ℕ) → IsBytes (sha256 m)
unfolding sha256
bytes-sha256 m = bytes-digest _ 8

-- a SHA-256 is a digest
pub sha256_is_digest : (m : List ℕ) → IsDigest (sha256 m)
sha256_is_digest m = (length-sha256 m, bytes-sha256 m)
