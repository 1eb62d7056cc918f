-- What bundles of proofs show: that leaves are in a checkpoint's log and map, and that a log continues an older one
-- (RFC 6962, sections 2.1.1 and 2.1.2).
use Rattle.std.specs.Prelude.{◌≡◌, ℕ, List, [], length, Some, slice_get}
use Rattle.warg_proof.specs.declared.leaf.LogLeaf.{LogLeaf}
use Rattle.warg_proof.specs.Leaves.{log_entry, map_value}
use Rattle.warg_proof.specs.LogProofs.{LogProofs, IsLogBundle, log_text, ProvesInclusion, ProvesConsistency}
use Rattle.warg_proof.specs.MapProofs.{MapPath, IsMapBundle, map_text, ProvesValue}
use Rattle.warg_exchange.specs.declared.checkpoint.Checkpoint.{Checkpoint}
use Rattle.warg_exchange.specs.declared.proof.InclusionResponse.{InclusionResponse}

-- of each leaf, with its number and its index
abbrev pub EachLeaf : (ℕ → ℕ → LogLeaf → Type 0) → List ℕ → List LogLeaf → Type 0
EachLeaf Is indices leafs =
    (at index : ℕ) (leaf : LogLeaf) → slice_get indices at ≡ Some index → slice_get leafs at ≡ Some leaf → Is at index leaf

-- the bundle's path of a number gives the checkpoint's log root for a leaf at an index
abbrev pub InLog : LogProofs → Checkpoint → ℕ → ℕ → LogLeaf → Type 0
InLog log c at index leaf =
    ProvesInclusion log at c.log_length index (log_entry leaf.log_id leaf.record_id) c.log_root

-- the bundle's path of a number gives the checkpoint's map root for a leaf, as the last of its log
abbrev pub InMap : List MapPath → Checkpoint → ℕ → ℕ → LogLeaf → Type 0
InMap map c at index leaf = ProvesValue map at leaf.log_id (map_value leaf.record_id) c.map_root

-- the log bundle holds one path for each leaf, in order, and nothing else, and each gives the log root
pub record IncludesInLog (c : Checkpoint) (indices : List ℕ) (leafs : List LogLeaf) (bytes : List ℕ) : Type 0 where
  pub bundle : LogProofs
  pub form : IsLogBundle bundle × (bytes ≡ log_text bundle)
  pub alone : bundle.consistencies ≡ []
  pub count : length bundle.inclusions ≡ length leafs
  pub paths : EachLeaf (InLog bundle c) indices leafs

-- the map bundle holds one path for each leaf, in order, and each gives the map root
pub record IncludesInMap (c : Checkpoint) (indices : List ℕ) (leafs : List LogLeaf) (bytes : List ℕ) : Type 0 where
  pub bundle : List MapPath
  pub form : IsMapBundle bundle × (bytes ≡ map_text bundle)
  pub count : length bundle ≡ length leafs
  pub paths : EachLeaf (InMap bundle c) indices leafs

-- each leaf, at its index, is in the checkpoint's log, and is the last of its log in the checkpoint's map
pub record Includes (c : Checkpoint) (indices : List ℕ) (leafs : List LogLeaf) (bundles : InclusionResponse) : Type 0 where
  pub one_index_each : length indices ≡ length leafs
  pub in_log : IncludesInLog c indices leafs bundles.log
  pub in_map : IncludesInMap c indices leafs bundles.map

-- the bundle's one proof is of the two lengths, and gives the two roots
pub record Continues (old new : ℕ) (old_root new_root : List ℕ) (bytes : List ℕ) : Type 0 where
  pub bundle : LogProofs
  pub form : IsLogBundle bundle × (bytes ≡ log_text bundle)
  pub proves : ProvesConsistency bundle old new old_root new_root
