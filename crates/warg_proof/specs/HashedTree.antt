-- The root of a log by the hashes of its leaves.
use Rattle.std.specs.Prelude.{ℕ, zero, suc, ◌^◌, nat_lt, if◌then◌else◌, List, [], ◌∷◌, length, take, drop}
use Rattle.sha2.specs.Sha256.{sha256}
use Rattle.warg_proof.specs.Merkle.{branch_hash}

-- the root of at most 2 ^ level entries whose leaves have these hashes
unfoldable pub hashed_within : ℕ → List (List ℕ) → List ℕ
hashed_within zero [] = sha256 []
hashed_within zero (hash ∷ hashes) = hash
hashed_within (suc level) hashes =
    if nat_lt (2 ^ level) (length hashes)
    then branch_hash (hashed_within level (take (2 ^ level) hashes)) (hashed_within level (drop (2 ^ level) hashes))
    else hashed_within level hashes

-- the root of entries whose leaves have these hashes: there are at most 2 ^ 64
abbrev pub hashed_root : List (List ℕ) → List ℕ
hashed_root hashes = hashed_within 64 hashes
