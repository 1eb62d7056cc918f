-- Why bundles do not show what was asked: the first fault, and want of memory.
use Rattle.std.specs.Prelude.{◌≡◌, ◌≢◌, ◌⊎◌, ℕ, ◌<◌, List, [], length, Some, None, IsSome, slice_get}
use Rattle.std.specs.Option.{IsSomeAnd}
use Rattle.warg_proof.specs.declared.fault.ProofFault.{ProofFault}
use Rattle.warg_proof.specs.declared.fault.ProofFault.TheVariants.{Form, WrongCount, WrongLeaf, WrongLength, MissingHash, OtherRoot, Memory}
use Rattle.warg_proof.specs.declared.leaf.LogLeaf.{LogLeaf}
use Rattle.warg_proof.specs.Leaves.{log_entry, map_value}
use Rattle.warg_proof.specs.LogProofs.{LogProofs, IsLogBundle, log_text, asked_inclusion, asked_consistency, AsksInclusion, AsksConsistency, IsOfOtherLength, IsOfOtherLeaf, IsOtherRoot, inclusion_path, consistency_hashes, ProvesInclusion}
use Rattle.warg_proof.specs.MapProofs.{MapPath, IsMapBundle, map_text, ProvesValue}
use Rattle.warg_exchange.specs.declared.checkpoint.Checkpoint.{Checkpoint}
use Rattle.warg_exchange.specs.declared.proof.InclusionResponse.{InclusionResponse}
use Rattle.warg_verify.specs.Shown.{EachLeaf, InLog, InMap, IncludesInLog}

-- ---- one path

-- the log bundle's path of a number does not show the leaf at the index
abbrev pub IsLogPathFault : LogProofs → Checkpoint → ℕ → ℕ → LogLeaf → ProofFault → Type 0
IsLogPathFault log c at index leaf WrongCount = asked_inclusion log at ≡ None
IsLogPathFault log c at index leaf WrongLength = IsSomeAnd (asked_inclusion log at) (IsOfOtherLength c.log_length)
IsLogPathFault log c at index leaf WrongLeaf = IsSomeAnd (asked_inclusion log at) (IsOfOtherLeaf c.log_length index)
IsLogPathFault log c at index leaf MissingHash =
    AsksInclusion log at c.log_length index × (inclusion_path log c.log_length index ≡ None)
IsLogPathFault log c at index leaf (OtherRoot root found) =
    (root ≡ c.log_root) × (found ≢ c.log_root)
    × ProvesInclusion log at c.log_length index (log_entry leaf.log_id leaf.record_id) found
IsLogPathFault log c at index leaf Form = ⊥
IsLogPathFault log c at index leaf Memory = Unit {0}

-- the map bundle's path of a number does not show the leaf
abbrev pub IsMapPathFault : List MapPath → Checkpoint → ℕ → ℕ → LogLeaf → ProofFault → Type 0
IsMapPathFault map c at index leaf WrongCount = slice_get map at ≡ None
IsMapPathFault map c at index leaf (OtherRoot root found) =
    (root ≡ c.map_root) × (found ≢ c.map_root) × ProvesValue map at leaf.log_id (map_value leaf.record_id) found
IsMapPathFault map c at index leaf WrongLength = ⊥
IsMapPathFault map c at index leaf WrongLeaf = ⊥
IsMapPathFault map c at index leaf MissingHash = ⊥
IsMapPathFault map c at index leaf Form = ⊥
IsMapPathFault map c at index leaf Memory = Unit {0}

-- ---- the paths of a bundle

-- the path of a number has this fault, and those before it show their leaves
pub record IsFirstFault (Is : ℕ → ℕ → LogLeaf → Type 0) (Fails : ℕ → ℕ → LogLeaf → Type 0)
    (indices : List ℕ) (leafs : List LogLeaf) : Type 0 where
  pub at : ℕ
  pub index : ℕ
  pub leaf : LogLeaf
  pub has_index : slice_get indices at ≡ Some index
  pub has_leaf : slice_get leafs at ≡ Some leaf
  pub fails : Fails at index leaf
  pub before : EachLeaf (λ k i l. k < at → Is k i l) indices leafs

-- ---- a bundle

-- no bundle has these bytes; or it does not hold one path for each leaf, and nothing else; or a path has this fault
abbrev pub IsLogFault : Checkpoint → List ℕ → List LogLeaf → List ℕ → ProofFault → Type 0
IsLogFault c indices leafs bytes fault =
    (fault ≡ Memory)
    ⊎ ((fault ≡ Form) × ((bundle : LogProofs) → IsLogBundle bundle → bytes ≡ log_text bundle → ⊥))
    ⊎ ((bundle : LogProofs) × IsLogBundle bundle × (bytes ≡ log_text bundle)
    × (((fault ≡ WrongCount) × ((bundle.consistencies ≡ []) → length bundle.inclusions ≢ length leafs))
    ⊎ IsFirstFault (InLog bundle c) (λ at index leaf. IsLogPathFault bundle c at index leaf fault) indices leafs))

abbrev pub IsMapFault : Checkpoint → List ℕ → List LogLeaf → List ℕ → ProofFault → Type 0
IsMapFault c indices leafs bytes fault =
    (fault ≡ Memory)
    ⊎ ((fault ≡ Form) × ((bundle : List MapPath) → IsMapBundle bundle → bytes ≡ map_text bundle → ⊥))
    ⊎ ((bundle : List MapPath) × IsMapBundle bundle × (bytes ≡ map_text bundle)
    × (((fault ≡ WrongCount) × (length bundle ≢ length leafs))
    ⊎ IsFirstFault (InMap bundle c) (λ at index leaf. IsMapPathFault bundle c at index leaf fault) indices leafs))

-- ---- both bundles

-- there is not one index for each leaf; or the log bundle has this fault; or it shows the leaves, and the map bundle has
-- this fault
abbrev pub IsInclusionFault : Checkpoint → List ℕ → List LogLeaf → InclusionResponse → ProofFault → Type 0
IsInclusionFault c indices leafs bundles fault =
    ((fault ≡ WrongCount) × (length indices ≢ length leafs))
    ⊎ IsLogFault c indices leafs bundles.log fault
    ⊎ (IncludesInLog c indices leafs bundles.log × IsMapFault c indices leafs bundles.map fault)

-- ---- a consistency

abbrev pub IsConsistencyProofFault : LogProofs → ℕ → ℕ → List ℕ → List ℕ → ProofFault → Type 0
IsConsistencyProofFault log old new old_root new_root WrongCount = asked_consistency log ≡ None
IsConsistencyProofFault log old new old_root new_root WrongLength =
    IsSome (asked_consistency log) × ¬ AsksConsistency log old new
IsConsistencyProofFault log old new old_root new_root MissingHash =
    AsksConsistency log old new × (consistency_hashes log old new ≡ None)
IsConsistencyProofFault log old new old_root new_root (OtherRoot root found) =
    IsOtherRoot log old new old_root new_root root found
IsConsistencyProofFault log old new old_root new_root WrongLeaf = ⊥
IsConsistencyProofFault log old new old_root new_root Form = ⊥
IsConsistencyProofFault log old new old_root new_root Memory = Unit {0}

-- no bundle has these bytes, or its one proof has this fault
abbrev pub IsConsistencyFault : ℕ → ℕ → List ℕ → List ℕ → List ℕ → ProofFault → Type 0
IsConsistencyFault old new old_root new_root bytes fault =
    (fault ≡ Memory)
    ⊎ ((fault ≡ Form) × ((bundle : LogProofs) → IsLogBundle bundle → bytes ≡ log_text bundle → ⊥))
    ⊎ ((bundle : LogProofs) × IsLogBundle bundle × (bytes ≡ log_text bundle)
    × IsConsistencyProofFault bundle old new old_root new_root fault)
