-- What a registry answers with: bundles of the proofs that were asked for, with just the nodes that they need.
use Rattle.std.specs.Prelude.{◌≡◌, ℕ, true, List, [], ◌∷◌, length, map}
use Rattle.std.specs.List.{All, Contains, flat_map}
use Rattle.warg_proof.specs.declared.node.Node.{Node}
use Rattle.warg_proof.specs.declared.node.Inclusion.{Inclusion}
use Rattle.warg_proof.specs.Merkle.{leaf_hash}
use Rattle.warg_proof.specs.LogTree.{inclusion_ranges, consistency_ranges}
use Rattle.warg_proof.specs.LogProofs.{LogProofs, IsLogBundle, IsNode, is_ascending}
use Rattle.warg_proof.specs.TrueProofs.{needed, ListsTruly}

-- these are the hashes of the leaves of a log's entries
abbrev pub AreHashesOf : List (List ℕ) → List (List ℕ) → Type 0
AreHashesOf entries hashes = hashes ≡ map leaf_hash entries

-- ---- what proofs need

-- the levels and places of the nodes that the inclusion of an entry of a log needs
abbrev pub inclusion_needs : ℕ → ℕ → List (ℕ × ℕ)
inclusion_needs count index = flat_map needed (inclusion_ranges count index)

-- the same of a consistency of two lengths
abbrev pub consistency_needs : ℕ → ℕ → List (ℕ × ℕ)
consistency_needs old new = flat_map needed (consistency_ranges old new)

-- nodes ascend, and stand at no other places than these
pub record AreNodesOf (nodes : List Node) (places : List (ℕ × ℕ)) : Type 0 where
  pub each : All IsNode nodes
  pub ascending : is_ascending nodes ≡ true
  pub needed : All (λ node. Contains places (node.level, node.place)) nodes

-- nodes are just those that the inclusions of some entries need, each with the root of its entries
pub record ListsInclusions (nodes : List Node) (entries : List (List ℕ)) (indices : List ℕ) : Type 0 where
  pub just : AreNodesOf nodes (flat_map (inclusion_needs (length entries)) indices)
  pub truly : All (λ index. ListsTruly nodes entries (inclusion_ranges (length entries) index)) indices

-- nodes are just those that the consistency of an old length needs, each with the root of its entries
pub record ListsConsistency (nodes : List Node) (entries : List (List ℕ)) (old : ℕ) : Type 0 where
  pub just : AreNodesOf nodes (consistency_needs old (length entries))
  pub truly : ListsTruly nodes entries (consistency_ranges old (length entries))

-- ---- bundles

-- the inclusion of an entry of a log of a length
abbrev pub inclusion_in : ℕ → ℕ → Inclusion
inclusion_in count index = record { log_length = count; index = index }

-- a bundle is for the inclusions of just these entries
pub record IsInclusionBundle (proofs : LogProofs) (entries : List (List ℕ)) (indices : List ℕ) : Type 0 where
  pub bundle : IsLogBundle proofs
  pub consistencies : proofs.consistencies ≡ []
  pub inclusions : proofs.inclusions ≡ map (inclusion_in (length entries)) indices
  pub nodes : ListsInclusions proofs.nodes entries indices

-- a bundle is for the consistency of an old length alone
pub record IsConsistencyBundle (proofs : LogProofs) (entries : List (List ℕ)) (old : ℕ) : Type 0 where
  pub bundle : IsLogBundle proofs
  pub consistencies : proofs.consistencies ≡ record { old_length = old; new_length = length entries } ∷ []
  pub inclusions : proofs.inclusions ≡ []
  pub nodes : ListsConsistency proofs.nodes entries old
