-- The tree of a map from keys of 32 bytes to values: a sparse Merkle tree of depth 256, hashed as a log's
-- (RFC 6962 section 2.1). Bit d of a key leads from depth d to the left where it is 0, and else to the right.
use Rattle.std.specs.Prelude.{◌≡◌, ℕ, zero, suc, ◌-◌, ◌/◌, ◌%◌, ◌^◌, Bool, false, not, ◌==◌, if◌then◌else◌, List, [], ◌∷◌, length, replicate, Option, Some, None, bytes_eq, slice_index, MatchOption}
use Rattle.std.specs.List.{All, find, filter}
use Rattle.std.specs.Map.{lookup}
use Rattle.std.specs.Option.{option_map_or}
use Rattle.sha2.specs.Sha256.{sha256}
use Rattle.hex.specs.Hex.{IsBytes}
use Rattle.warg_hash.specs.Hash.{IsDigest}
use Rattle.warg_proof.specs.Merkle.{IsClash, leaf_text, branch_text, leaf_hash, branch_hash}

-- ---- the map

-- A map is a list of keys with their values. Of a key that stands twice the first value counts.
abbrev pub Entries : Type 0
Entries = List (List ℕ × List ℕ)

-- the value at a key
abbrev pub value_at : Entries → List ℕ → Option (List ℕ)
value_at map key = lookup (λ known. bytes_eq known key) map

-- the keys are hashes, the values byte strings
abbrev pub IsMap : Entries → Type 0
IsMap map = All (λ entry. IsDigest entry.0 × IsBytes entry.1) map

-- ---- the root

-- the hash of an empty leaf: 32 zero bytes
abbrev pub empty_leaf : List ℕ
empty_leaf = replicate 32 0

-- the root of an empty subtree, by its height above the leaves
unfoldable pub empty_root : ℕ → List ℕ
empty_root zero = empty_leaf
empty_root (suc height) = branch_hash (empty_root height) (empty_root height)

-- whether bit d of a byte string is 1, counted from the highest bit of its first byte on
abbrev pub has_bit : List ℕ → ℕ → Bool
has_bit bytes d = slice_index bytes (d / 8) / 2 ^ (7 - d % 8) % 2 == 1

-- the entries whose keys lead to the left, and to the right, from a depth
abbrev pub left_of : ℕ → Entries → Entries
left_of depth entries = filter (λ entry. not (has_bit entry.0 depth)) entries

abbrev pub right_of : ℕ → Entries → Entries
right_of depth entries = filter (λ entry. has_bit entry.0 depth) entries

-- The root of the subtree of a height in which the entries lie. The splits of a subtree of height h + 1 are
-- at depth 255 - h.
unfoldable pub subtree_root : ℕ → Entries → List ℕ
subtree_root height [] = empty_root height
subtree_root zero (entry ∷ entries) = leaf_hash entry.1
subtree_root (suc height) (entry ∷ entries) =
    branch_hash (subtree_root height (left_of (255 - height) (entry ∷ entries)))
    (subtree_root height (right_of (255 - height) (entry ∷ entries)))

abbrev pub map_root : Entries → List ℕ
map_root map = subtree_root 256 map

-- ---- inclusion

-- the root of the subtree in which a key lies, rebuilt from its value and its siblings, from the split down
unfoldable pub subtree_path_root : List ℕ → List ℕ → List (List ℕ) → List ℕ
subtree_path_root key value [] = leaf_hash value
subtree_path_root key value (sibling ∷ siblings) =
    if has_bit key (255 - length siblings)
    then branch_hash sibling (subtree_path_root key value siblings)
    else branch_hash (subtree_path_root key value siblings) sibling

-- The root that a key's value and its 256 siblings, from the root down, give. There is none for another
-- number of siblings.
abbrev pub map_path_root : List ℕ → List ℕ → List (List ℕ) → Option (List ℕ)
map_path_root key value siblings = if length siblings == 256 then Some (subtree_path_root key value siblings) else None

-- What the root from the siblings and the root of the entries hash at each split, and then at the leaf. Of an
-- empty leaf nothing is hashed.
unfoldable pub map_pairs : List ℕ → List ℕ → List (List ℕ) → Entries → List (List ℕ × Option (List ℕ))
map_pairs key value [] [] = (leaf_text value, None) ∷ []
map_pairs key value [] (entry ∷ entries) = (leaf_text value, Some (leaf_text entry.1)) ∷ []
map_pairs key value (sibling ∷ siblings) entries =
    let depth = 255 - length siblings in
    let left = subtree_root (length siblings) (left_of depth entries) in
    let right = subtree_root (length siblings) (right_of depth entries) in
    if has_bit key depth
    then (branch_text sibling (subtree_path_root key value siblings), Some (branch_text left right)) ∷ map_pairs key value siblings (right_of depth entries)
    else (branch_text (subtree_path_root key value siblings) sibling, Some (branch_text left right)) ∷ map_pairs key value siblings (left_of depth entries)

-- the strings of a pair differ, or only one was hashed
abbrev pub is_apart : List ℕ × Option (List ℕ) → Bool
is_apart pair = not (option_map_or (bytes_eq pair.0) pair.1 false)

-- the first two different strings that the root of a map and the root from a path hash at one place, or the
-- leaf's string where the map has an empty leaf
abbrev pub map_clash : Entries → List ℕ → List ℕ → List (List ℕ) → Option (List ℕ × Option (List ℕ))
map_clash map key value siblings = find is_apart (map_pairs key value siblings map)

-- two different byte strings of equal SHA-256, or one whose SHA-256 is 32 zero bytes
abbrev pub IsMapClash : List ℕ × Option (List ℕ) → Type 0
IsMapClash strings = MatchOption strings.1 (IsBytes strings.0 × (sha256 strings.0 ≡ empty_leaf)) (λ other. IsClash (strings.0, other))
