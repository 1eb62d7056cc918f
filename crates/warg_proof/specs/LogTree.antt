-- The Merkle tree of a log: its root (RFC 6962 section 2.1), and the roots that an inclusion path
-- (section 2.1.1) and the hashes of a consistency proof (section 2.1.2) rebuild.
--
-- A range of more than one entry is split at the largest power of two below its length. So the range of
-- at most 2 ^ (level + 1) entries, if they are more than 2 ^ level, has 2 ^ level entries to the left.
use Rattle.std.specs.Prelude.{ℕ, zero, suc, ◌+◌, ◌-◌, ◌*◌, ◌^◌, ◌&&◌, ◌==◌, nat_lt, nat_le, if◌then◌else◌, List, [], ◌∷◌, length, take, drop, Option, Some, None}
use Rattle.sha2.specs.Sha256.{sha256}
use Rattle.warg_proof.specs.Merkle.{leaf_text, branch_text, leaf_hash, branch_hash, next_hash, first_clash}

-- ---- the root

-- the root of at most 2 ^ level entries
unfoldable pub root_within : ℕ → List (List ℕ) → List ℕ
root_within zero [] = sha256 []
root_within zero (entry ∷ entries) = leaf_hash entry
root_within (suc level) entries =
    if nat_lt (2 ^ level) (length entries)
    then branch_hash (root_within level (take (2 ^ level) entries)) (root_within level (drop (2 ^ level) entries))
    else root_within level entries

-- the root of a list of entries: n entries are at most 2 ^ n
abbrev pub root : List (List ℕ) → List ℕ
root entries = root_within (length entries) entries

-- ---- inclusion

-- count entries of the log, at most 2 ^ level, from the entry place * 2 ^ level on
pub record Range : Type 0 where
  pub level : ℕ
  pub place : ℕ
  pub count : ℕ

abbrev pub range : ℕ → ℕ → ℕ → Range
range level place count = record { level = level; place = place; count = count }

-- the ranges beside the way from a range down to its entry at an index, one for each split
unfoldable pub ranges_beside : ℕ → ℕ → ℕ → ℕ → List Range
ranges_beside zero place count index = []
ranges_beside (suc level) place count index =
    let half = 2 ^ level in
    let in_left = range level (2 * place + 1) (count - half) ∷ ranges_beside level (2 * place) half index in
    let in_right = range level (2 * place) half ∷ ranges_beside level (2 * place + 1) (count - half) (index - half) in
    let low = ranges_beside level (2 * place) count index in
    if nat_lt half count then (if nat_lt index half then in_left else in_right) else low

-- the ranges whose roots are the inclusion path of an entry, from the whole log's split down
abbrev pub inclusion_ranges : ℕ → ℕ → List Range
inclusion_ranges count index = ranges_beside count 0 count index

-- the root of count entries, at most 2 ^ level, rebuilt from the one at an index and the hashes beside it
unfoldable pub path_root_within : ℕ → ℕ → ℕ → List ℕ → List (List ℕ) → List ℕ
path_root_within zero index count leaf path = leaf_hash leaf
path_root_within (suc level) index count leaf path =
    let half = 2 ^ level in
    let in_left = branch_hash (path_root_within level index half leaf (drop 1 path)) (next_hash path) in
    let in_right = branch_hash (next_hash path) (path_root_within level (index - half) (count - half) leaf (drop 1 path)) in
    let low = path_root_within level index count leaf path in
    if nat_lt half count then (if nat_lt index half then in_left else in_right) else low

-- The root of count entries that an inclusion path gives for the leaf at an index. There is none unless the
-- index is below the count and the path has a hash for each split.
abbrev pub path_root : ℕ → ℕ → List ℕ → List (List ℕ) → Option (List ℕ)
path_root index count leaf path =
    if nat_lt index count && (length path == length (inclusion_ranges count index))
    then Some (path_root_within count index count leaf path)
    else None

-- what the root of the entries and the root from the path hash at each split, and then at the leaf
unfoldable pub inclusion_pairs : ℕ → List (List ℕ) → ℕ → List ℕ → List (List ℕ) → List (List ℕ × List ℕ)
inclusion_pairs zero [] index leaf path = []
inclusion_pairs zero (entry ∷ entries) index leaf path = (leaf_text entry, leaf_text leaf) ∷ []
inclusion_pairs (suc level) entries index leaf path =
    let half = 2 ^ level in
    let text = branch_text (root_within level (take half entries)) (root_within level (drop half entries)) in
    let left = path_root_within level index half leaf (drop 1 path) in
    let right = path_root_within level (index - half) (length entries - half) leaf (drop 1 path) in
    let in_left = (text, branch_text left (next_hash path)) ∷ inclusion_pairs level (take half entries) index leaf (drop 1 path) in
    let in_right = (text, branch_text (next_hash path) right) ∷ inclusion_pairs level (drop half entries) (index - half) leaf (drop 1 path) in
    let low = inclusion_pairs level entries index leaf path in
    if nat_lt half (length entries) then (if nat_lt index half then in_left else in_right) else low

-- the first two different strings that the root of the entries and the root from a path hash at one place
abbrev pub inclusion_clash : List (List ℕ) → ℕ → List ℕ → List (List ℕ) → Option (List ℕ × List ℕ)
inclusion_clash entries index leaf path = first_clash (inclusion_pairs (length entries) entries index leaf path)

-- ---- consistency

-- The ranges that join the first old entries of a range to all of its new entries: at each split that the
-- old length cuts the part beside, and last the range that ends at the old length.
unfoldable pub ranges_joining : ℕ → ℕ → ℕ → ℕ → List Range
ranges_joining zero place old new = range zero place new ∷ []
ranges_joining (suc level) place old new =
    let half = 2 ^ level in
    let whole = range (suc level) place new ∷ [] in
    let in_left = range level (2 * place + 1) (new - half) ∷ ranges_joining level (2 * place) old half in
    let in_right = range level (2 * place) half ∷ ranges_joining level (2 * place + 1) (old - half) (new - half) in
    let low = ranges_joining level (2 * place) old new in
    if nat_lt half new then (if old == new then whole else (if nat_lt half old then in_right else in_left)) else low

-- the ranges whose roots are the hashes of a consistency proof, from the whole log's split down
abbrev pub consistency_ranges : ℕ → ℕ → List Range
consistency_ranges old new = ranges_joining new 0 old new

-- the root of the first old entries and that of all the new ones, at most 2 ^ level, rebuilt from the hashes
unfoldable pub roots_within : ℕ → ℕ → ℕ → List (List ℕ) → List ℕ × List ℕ
roots_within zero old new hashes = (next_hash hashes, next_hash hashes)
roots_within (suc level) old new hashes =
    let half = 2 ^ level in
    let hash = next_hash hashes in
    let left = roots_within level old half (drop 1 hashes) in
    let right = roots_within level (old - half) (new - half) (drop 1 hashes) in
    let in_left : List ℕ × List ℕ = (left.0, branch_hash left.1 hash) in
    let in_right : List ℕ × List ℕ = (branch_hash hash right.0, branch_hash hash right.1) in
    let low = roots_within level old new hashes in
    if nat_lt half new then (if old == new then (hash, hash) else (if nat_lt half old then in_right else in_left)) else low

-- The old root and the new root that a consistency proof gives. There are none unless the old length is at
-- least 1 and at most the new one, and there is a hash for each range.
abbrev pub two_roots : ℕ → ℕ → List (List ℕ) → Option (List ℕ × List ℕ)
two_roots old new hashes =
    if nat_lt 0 old && nat_le old new && (length hashes == length (consistency_ranges old new))
    then Some (roots_within new old new hashes)
    else None

-- what the root of the entries and the new root from the proof hash at each split that the old length cuts
unfoldable pub consistency_pairs : ℕ → List (List ℕ) → ℕ → List (List ℕ) → List (List ℕ × List ℕ)
consistency_pairs zero entries old hashes = []
consistency_pairs (suc level) entries old hashes =
    let half = 2 ^ level in
    let new = length entries in
    let text = branch_text (root_within level (take half entries)) (root_within level (drop half entries)) in
    let left = roots_within level old half (drop 1 hashes) in
    let right = roots_within level (old - half) (new - half) (drop 1 hashes) in
    let in_left = (text, branch_text left.1 (next_hash hashes)) ∷ consistency_pairs level (take half entries) old (drop 1 hashes) in
    let in_right = (text, branch_text (next_hash hashes) right.1) ∷ consistency_pairs level (drop half entries) (old - half) (drop 1 hashes) in
    let low = consistency_pairs level entries old hashes in
    if nat_lt half new then (if old == new then [] else (if nat_lt half old then in_right else in_left)) else low

-- the first two different strings that the root of the entries and the new root from a proof hash at one place
abbrev pub consistency_clash : List (List ℕ) → ℕ → List (List ℕ) → Option (List ℕ × List ℕ)
consistency_clash entries old hashes = first_clash (consistency_pairs (length entries) entries old hashes)
