-- What a log bundle holds: its bytes, the hashes of ranges that it gives, and what its proofs prove.
use Rattle.std.specs.Prelude.{◌≡◌, ◌≢◌, ◌⊎◌, ℕ, zero, suc, ◌+◌, ◌-◌, ◌*◌, ◌^◌, ◌<◌, ◌≤◌, Bool, true, ◌&&◌, ◌||◌, ◌==◌, nat_lt, if◌then◌else◌, List, [], ◌∷◌, ◌++◌, length, Option, Some, None, slice_get}
use Rattle.std.specs.List.{AllByRecursion, flat_map}
use Rattle.std.specs.Int.{w32, w64, to_be_bytes}
use Rattle.std.specs.Option.{option_map, option_and_then}
use Rattle.warg_proof.specs.declared.node.Node.{Node}
use Rattle.warg_proof.specs.declared.node.Consistency.{Consistency}
use Rattle.warg_proof.specs.declared.node.Inclusion.{Inclusion}
use Rattle.warg_hash.specs.Hash.{IsDigest}
use Rattle.warg_proof.specs.Merkle.{AreHashes, branch_hash}
use Rattle.warg_proof.specs.LogTree.{Range, inclusion_ranges, consistency_ranges, path_root, two_roots}

pub record LogProofs : Type 0 where
  pub nodes : List Node
  pub consistencies : List Consistency
  pub inclusions : List Inclusion

-- a bundle of these lists
abbrev pub bundle_of : List Node → List Consistency → List Inclusion → LogProofs
bundle_of nodes consistencies inclusions = record { nodes = nodes; consistencies = consistencies; inclusions = inclusions }

-- ---- the bytes

abbrev pub node_text : Node → List ℕ
node_text node = node.level ∷ to_be_bytes w64 node.place ++ node.hash

abbrev pub consistency_text : Consistency → List ℕ
consistency_text pair = to_be_bytes w64 pair.old_length ++ to_be_bytes w64 pair.new_length

abbrev pub inclusion_text : Inclusion → List ℕ
inclusion_text pair = to_be_bytes w64 pair.log_length ++ to_be_bytes w64 pair.index

-- a count in four bytes, and as many values
abbrev pub counted : {X : Type 0} → (X → List ℕ) → List X → List ℕ
counted text xs = to_be_bytes w32 (length xs) ++ flat_map text xs

-- the bytes of a bundle, numbers with the highest byte first
abbrev pub log_text : LogProofs → List ℕ
log_text proofs = 0 ∷ counted node_text proofs.nodes ++ (counted consistency_text proofs.consistencies ++ counted inclusion_text proofs.inclusions)

-- ---- the values that have bytes

pub record IsNode (node : Node) : Type 0 where
  pub level : node.level < 2 ^ 8
  pub place : node.place < 2 ^ 64
  pub hash : IsDigest node.hash

pub record IsConsistency (pair : Consistency) : Type 0 where
  pub old_length : pair.old_length < 2 ^ 64
  pub new_length : pair.new_length < 2 ^ 64

pub record IsInclusion (pair : Inclusion) : Type 0 where
  pub log_length : pair.log_length < 2 ^ 64
  pub index : pair.index < 2 ^ 64

-- fewer values than four bytes can count, each of its form
pub record AreCounted {X : Type 0} (Is : X → Type 0) (xs : List X) : Type 0 where
  pub few : length xs < 2 ^ 32
  pub each : AllByRecursion Is xs

-- a node comes before another by its level, and on one level by its place
abbrev pub comes_before : Node → Node → Bool
comes_before a b = nat_lt a.level b.level || (a.level == b.level && nat_lt a.place b.place)

abbrev pub before_first : Node → List Node → Bool
before_first node [] = true
before_first node (next ∷ nodes) = comes_before node next

-- each node comes before the next
unfoldable pub is_ascending : List Node → Bool
is_ascending [] = true
is_ascending (node ∷ nodes) = before_first node nodes && is_ascending nodes

pub record IsLogBundle (proofs : LogProofs) : Type 0 where
  pub nodes : AreCounted IsNode proofs.nodes
  pub ascending : is_ascending proofs.nodes ≡ true
  pub consistencies : AreCounted IsConsistency proofs.consistencies
  pub inclusions : AreCounted IsInclusion proofs.inclusions

-- ---- hashes of ranges

-- the listed hash of the node at a place of a level
unfoldable pub listed : List Node → ℕ → ℕ → Option (List ℕ)
listed [] level place = None
listed (node ∷ nodes) level place = if node.level == level && node.place == place then Some node.hash else listed nodes level place

-- the branch over two hashes, where both are there
abbrev pub branch_of : Option (List ℕ) → Option (List ℕ) → Option (List ℕ)
branch_of left right = option_and_then (λ l. option_map (λ r. branch_hash l r) right) left

-- The hash of the count entries, at most 2 ^ level, from place * 2 ^ level on. Where they are a power of two
-- it is the listed one, and else the branch over the hashes of the two parts of the split.
unfoldable pub hash_within : List Node → ℕ → ℕ → ℕ → Option (List ℕ)
hash_within nodes zero place count = listed nodes 0 place
hash_within nodes (suc level) place count =
    let half = 2 ^ level in
    let parts = branch_of (hash_within nodes level (2 * place) half) (hash_within nodes level (2 * place + 1) (count - half)) in
    let low = hash_within nodes level (2 * place) count in
    if nat_lt half count then (if count == 2 ^ suc level then listed nodes (suc level) place else parts) else low

abbrev pub range_hash : List Node → Range → Option (List ℕ)
range_hash nodes range = hash_within nodes range.level range.place range.count

-- what f gives of each, where it gives something of each
abbrev pub each_or_none : {A B : Type 0} → (A → Option B) → List A → Option (List B)
each_or_none f [] = Some []
each_or_none f (x ∷ xs) = option_and_then (λ y. option_map (λ ys. y ∷ ys) (each_or_none f xs)) (f x)

-- the inclusion path that the bundle gives for an index below a length, unless it lacks a hash
abbrev pub inclusion_path : LogProofs → ℕ → ℕ → Option (List (List ℕ))
inclusion_path proofs length index = each_or_none (range_hash proofs.nodes) (inclusion_ranges length index)

-- the hashes that the bundle gives for a consistency of two lengths, unless it lacks one
abbrev pub consistency_hashes : LogProofs → ℕ → ℕ → Option (List (List ℕ))
consistency_hashes proofs old new = each_or_none (range_hash proofs.nodes) (consistency_ranges old new)

-- ---- what a bundle proves

-- the inclusion proof of a number, in a bundle for inclusions alone
abbrev pub numbered : List Consistency → List Inclusion → ℕ → Option Inclusion
numbered [] inclusions at = slice_get inclusions at
numbered (pair ∷ pairs) inclusions at = None

abbrev pub asked_inclusion : LogProofs → ℕ → Option Inclusion
asked_inclusion proofs at = numbered proofs.consistencies proofs.inclusions at

-- the one consistency proof, in a bundle that holds nothing else
abbrev pub only_one : List Consistency → List Inclusion → Option Consistency
only_one [] inclusions = None
only_one (pair ∷ []) [] = Some pair
only_one (pair ∷ []) (inclusion ∷ inclusions) = None
only_one (pair ∷ next ∷ pairs) inclusions = None

abbrev pub asked_consistency : LogProofs → Option Consistency
asked_consistency proofs = only_one proofs.consistencies proofs.inclusions

-- the bundle's inclusion proof of a number is for an index of a log of a length
pub record AsksInclusion (proofs : LogProofs) (at log_length index : ℕ) : Type 0 where
  pub asked : asked_inclusion proofs at ≡ Some (record { log_length = log_length; index = index })
  pub below : index < log_length

-- a proof is for another length than the asked one
abbrev pub IsOfOtherLength : ℕ → Inclusion → Type 0
IsOfOtherLength log_length asked = asked.log_length ≢ log_length

-- a proof is for the asked length, and for another index, or for one that is not below the length
abbrev pub IsOfOtherLeaf : ℕ → ℕ → Inclusion → Type 0
IsOfOtherLeaf log_length index asked = (asked.log_length ≡ log_length) × (asked.index ≡ index → log_length ≤ index)

-- that proof's path gives the root for the entry
pub record ProvesInclusion (proofs : LogProofs) (at log_length index : ℕ) (entry root : List ℕ) : Type 0 where
  pub asks : AsksInclusion proofs at log_length index
  pub path : List (List ℕ)
  pub gives_path : inclusion_path proofs log_length index ≡ Some path
  pub are_hashes : AreHashes path
  pub gives_root : path_root index log_length entry path ≡ Some root

-- the bundle's one proof is for a consistency of two lengths, of which the old one is at least 1
pub record AsksConsistency (proofs : LogProofs) (old new : ℕ) : Type 0 where
  pub asked : asked_consistency proofs ≡ Some (record { old_length = old; new_length = new })
  pub positive : 0 < old
  pub ordered : old ≤ new

-- that proof's hashes give the two roots
pub record ProvesConsistency (proofs : LogProofs) (old new : ℕ) (old_root new_root : List ℕ) : Type 0 where
  pub asks : AsksConsistency proofs old new
  pub hashes : List (List ℕ)
  pub gives_hashes : consistency_hashes proofs old new ≡ Some hashes
  pub are_hashes : AreHashes hashes
  pub gives_roots : two_roots old new hashes ≡ Some (old_root, new_root)

-- the proof gives another old root, or the given old root and another new one
abbrev pub IsOtherRoot : LogProofs → ℕ → ℕ → List ℕ → List ℕ → List ℕ → List ℕ → Type 0
IsOtherRoot proofs old new old_root new_root given found =
    ((given ≡ old_root) × (found ≢ old_root) × (other : List ℕ) × ProvesConsistency proofs old new found other)
    ⊎ ((given ≡ new_root) × (found ≢ new_root) × ProvesConsistency proofs old new old_root found)

-- the root that the bundle gives for an entry, unless it lacks a hash
abbrev pub inclusion_root : LogProofs → ℕ → ℕ → List ℕ → Option (List ℕ)
inclusion_root proofs log_length index entry = option_and_then (path_root index log_length entry) (inclusion_path proofs log_length index)

-- the two roots that the bundle gives, unless it lacks a hash
abbrev pub consistency_roots : LogProofs → ℕ → ℕ → Option (List ℕ × List ℕ)
consistency_roots proofs old new = option_and_then (two_roots old new) (consistency_hashes proofs old new)
