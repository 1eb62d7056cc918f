-- The hashes of a Merkle tree (RFC 6962 section 2.1), and what a clash of two of them is.
use Rattle.std.specs.Prelude.{◌≡◌, ◌≢◌, ℕ, not, List, [], ◌∷◌, ◌++◌, Option, slice_index_or, bytes_eq}
use Rattle.std.specs.List.{All, find}
use Rattle.hex.specs.Hex.{IsBytes}
use Rattle.sha2.specs.Sha256.{sha256}
use Rattle.warg_hash.specs.Hash.{IsDigest}

-- each is a byte string
abbrev pub AreBytes : List (List ℕ) → Type 0
AreBytes strings = All IsBytes strings

-- each is a hash
abbrev pub AreHashes : List (List ℕ) → Type 0
AreHashes hashes = All IsDigest hashes

-- what is hashed at a leaf
abbrev pub leaf_text : List ℕ → List ℕ
leaf_text content = 0 ∷ content

-- what is hashed at a branch
abbrev pub branch_text : List ℕ → List ℕ → List ℕ
branch_text left right = 1 ∷ left ++ right

abbrev pub leaf_hash : List ℕ → List ℕ
leaf_hash content = sha256 (leaf_text content)

abbrev pub branch_hash : List ℕ → List ℕ → List ℕ
branch_hash left right = sha256 (branch_text left right)

-- the hash that a list of hashes has next, and no bytes where it has none
abbrev pub next_hash : List (List ℕ) → List ℕ
next_hash hashes = slice_index_or hashes 0 []

-- two different byte strings of equal SHA-256
pub record IsClash (strings : List ℕ × List ℕ) : Type 0 where
  pub first_bytes : IsBytes strings.0
  pub second_bytes : IsBytes strings.1
  pub differ : strings.0 ≢ strings.1
  pub hash_alike : sha256 strings.0 ≡ sha256 strings.1

-- the first of the pairs whose strings differ
abbrev pub first_clash : List (List ℕ × List ℕ) → Option (List ℕ × List ℕ)
first_clash pairs = find (λ pair. not (bytes_eq pair.0 pair.1)) pairs
