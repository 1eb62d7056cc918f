-- Where nodes stand, and which nodes stand there.
use Rattle.std.specs.Prelude.{◌≡◌, ℕ, ◌+◌, ◌*◌, ◌^◌, ◌<◌, ◌≤◌, List, length, take, drop}
use Rattle.std.specs.List.{AllByRecursion}
use Rattle.std.specs.Ordering.{nat_cmp, ordering_then}
use Rattle.std.specs.declared.cmp.Ordering.{Ordering}
use Rattle.warg_proof.specs.declared.node.Node.{Node}
use Rattle.warg_proof.specs.HashedTree.{hashed_root}

-- places in order: by the level, and on one level by the place
abbrev pub place_cmp : ℕ × ℕ → ℕ × ℕ → Ordering
place_cmp a b = ordering_then (nat_cmp a.0 b.0) (nat_cmp a.1 b.1)

-- a log of a length has the whole node at a level and a place
pub record IsPlaceOf (count : ℕ) (at : ℕ × ℕ) : Type 0 where
  pub level : at.0 < 64
  pub within : at.1 * 2 ^ at.0 + 2 ^ at.0 ≤ count

-- the hash of the node at a level and a place, by those of the log's leaves
abbrev pub hash_at : List (List ℕ) → ℕ × ℕ → List ℕ
hash_at hashes at = hashed_root (take (2 ^ at.0) (drop (at.1 * 2 ^ at.0) hashes))

-- the node at a level and a place
abbrev pub node_at : List (List ℕ) → ℕ × ℕ → Node
node_at hashes at = record { level = at.0; place = at.1; hash = hash_at hashes at }

-- a hash is that of the whole node at a level and a place
pub record IsHashAt (hashes : List (List ℕ)) (at : ℕ × ℕ) (hash : List ℕ) : Type 0 where
  pub whole : IsPlaceOf (length hashes) at
  pub is : hash ≡ hash_at hashes at

-- each hash is that of the whole node at its level and place
abbrev pub AreHashesAt : List (List ℕ) → List ((ℕ × ℕ) × List ℕ) → Type 0
AreHashesAt hashes known = AllByRecursion (λ k. IsHashAt hashes k.0 k.1) known
