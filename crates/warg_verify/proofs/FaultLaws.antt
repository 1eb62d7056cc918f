-- Why a path or a proof does not show what was asked, by what a bundle answers.
use Rattle.std.proofs.Common.{◌≡◌, ◌≢◌, inl, inr, List, ℕ, None, refl}
use Rattle.std.specs.Prelude.{Result, Ok, Err, IfErr, IsSome, slice_get}
use Rattle.std.specs.Option.{IsSomeAnd}
use Rattle.warg_proof.specs.declared.fault.ProofFault.{ProofFault}
use Rattle.warg_proof.specs.declared.fault.ProofFault.TheVariants.{Form, WrongCount, WrongLeaf, WrongLength, MissingHash, OtherRoot, Memory}
use Rattle.warg_proof.specs.declared.leaf.LogLeaf.{LogLeaf}
use Rattle.warg_proof.specs.Leaves.{log_entry, map_value}
use Rattle.warg_proof.specs.LogProofs.{LogProofs, IsLogBundle, log_text, asked_inclusion, asked_consistency, AsksInclusion, AsksConsistency, IsOfOtherLength, IsOfOtherLeaf, IsOtherRoot, inclusion_path, consistency_hashes, ProvesInclusion}
use Rattle.warg_proof.specs.MapProofs.{MapPath, ProvesValue}
use Rattle.warg_exchange.specs.declared.checkpoint.Checkpoint.{Checkpoint}
use Rattle.warg_verify.specs.Faults.{IsLogPathFault, IsMapPathFault, IsConsistencyFault}

pub log_path_fault : (log : LogProofs) (c : Checkpoint) (at index : ℕ) (leaf : LogLeaf) (answer : Result (Unit {0}) ProofFault)
    → (answer ≡ Err WrongCount → asked_inclusion log at ≡ None)
    → (answer ≡ Err WrongLength → IsSomeAnd (asked_inclusion log at) (IsOfOtherLength c.log_length))
    → (answer ≡ Err WrongLeaf → IsSomeAnd (asked_inclusion log at) (IsOfOtherLeaf c.log_length index))
    → (answer ≡ Err MissingHash → AsksInclusion log at c.log_length index × (inclusion_path log c.log_length index ≡ None))
    → ((root found : List ℕ) → answer ≡ Err (OtherRoot root found) → (root ≡ c.log_root) × (found ≢ c.log_root) × ProvesInclusion log at c.log_length index (log_entry leaf.log_id leaf.record_id) found)
    → answer ≢ Err Form
    → IfErr answer (λ fault. IsLogPathFault log c at index leaf fault)
log_path_fault log c at index leaf (Ok done) count length leaf_of missing root form = tt
log_path_fault log c at index leaf (Err WrongCount) count length leaf_of missing root form = count refl
log_path_fault log c at index leaf (Err WrongLength) count length leaf_of missing root form = length refl
log_path_fault log c at index leaf (Err WrongLeaf) count length leaf_of missing root form = leaf_of refl
log_path_fault log c at index leaf (Err MissingHash) count length leaf_of missing root form = missing refl
log_path_fault log c at index leaf (Err (OtherRoot given found)) count length leaf_of missing root form = root given found refl
log_path_fault log c at index leaf (Err Form) count length leaf_of missing root form = form refl
log_path_fault log c at index leaf (Err Memory) count length leaf_of missing root form = tt

pub map_path_fault : (map : List MapPath) (c : Checkpoint) (at index : ℕ) (leaf : LogLeaf) (answer : Result (Unit {0}) ProofFault)
    → (answer ≡ Err WrongCount → slice_get map at ≡ None)
    → ((root found : List ℕ) → answer ≡ Err (OtherRoot root found) → (root ≡ c.map_root) × (found ≢ c.map_root) × ProvesValue map at leaf.log_id (map_value leaf.record_id) found)
    → (answer ≢ Err WrongLength) × (answer ≢ Err WrongLeaf) × (answer ≢ Err MissingHash) × (answer ≢ Err Form) × (answer ≢ Err Memory)
    → IfErr answer (λ fault. IsMapPathFault map c at index leaf fault)
map_path_fault map c at index leaf (Ok done) count root other = tt
map_path_fault map c at index leaf (Err WrongCount) count root other = count refl
map_path_fault map c at index leaf (Err (OtherRoot given found)) count root other = root given found refl
map_path_fault map c at index leaf (Err WrongLength) count root other = other.0 refl
map_path_fault map c at index leaf (Err WrongLeaf) count root other = other.1 refl
map_path_fault map c at index leaf (Err MissingHash) count root other = other.2 refl
map_path_fault map c at index leaf (Err Form) count root other = other.3 refl
map_path_fault map c at index leaf (Err Memory) count root other = tt

pub consistency_fault : (log : LogProofs) (bytes : List ℕ) (old new : ℕ) (old_root new_root : List ℕ) (answer : Result (Unit {0}) ProofFault)
    → IsLogBundle log → bytes ≡ log_text log
    → (answer ≡ Err WrongCount → asked_consistency log ≡ None)
    → (answer ≡ Err WrongLength → IsSome (asked_consistency log) × ¬ AsksConsistency log old new)
    → (answer ≡ Err MissingHash → AsksConsistency log old new × (consistency_hashes log old new ≡ None))
    → ((root found : List ℕ) → answer ≡ Err (OtherRoot root found) → IsOtherRoot log old new old_root new_root root found)
    → (answer ≢ Err WrongLeaf) × (answer ≢ Err Form) × (answer ≢ Err Memory)
    → IfErr answer (λ fault. IsConsistencyFault old new old_root new_root bytes fault)
consistency_fault log bytes old new old_root new_root (Ok done) is text count length missing root other = tt
consistency_fault log bytes old new old_root new_root (Err WrongCount) is text count length missing root other = inr (inr (log, is, text, count refl))
consistency_fault log bytes old new old_root new_root (Err WrongLength) is text count length missing root other = inr (inr (log, is, text, length refl))
consistency_fault log bytes old new old_root new_root (Err MissingHash) is text count length missing root other = inr (inr (log, is, text, missing refl))
consistency_fault log bytes old new old_root new_root (Err (OtherRoot given found)) is text count length missing root other = inr (inr (log, is, text, root given found refl))
consistency_fault log bytes old new old_root new_root (Err WrongLeaf) is text count length missing root other = absurd (other.0 refl)
consistency_fault log bytes old new old_root new_root (Err Form) is text count length missing root other = absurd (other.1 refl)
consistency_fault log bytes old new old_root new_root (Err Memory) is text count length missing root other = inl refl
