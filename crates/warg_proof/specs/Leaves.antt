-- The texts that stand at the leaves of a registry's log and map.
use Rattle.std.specs.Prelude.{ℕ, List, ◌++◌, codes}
use Rattle.warg_hash.specs.Hash.{hash_text}
use Rattle.warg_proof.specs.declared.leaf.LogLeaf.{LogLeaf}
use Rattle.warg_proof.specs.Merkle.{leaf_hash}

-- the log's entry for a record of a log: their ids as texts
abbrev pub log_entry : List ℕ → List ℕ → List ℕ
log_entry log_id record_id = codes "WARG-LOG-LEAF-V0:" ++ hash_text log_id ++ codes ":" ++ hash_text record_id

-- the entry's bytes of a leaf
abbrev pub leaf_entry : LogLeaf → List ℕ
leaf_entry leaf = log_entry leaf.log_id leaf.record_id

-- the hash of a leaf
abbrev pub entry_hash : LogLeaf → List ℕ
entry_hash leaf = leaf_hash (leaf_entry leaf)

-- the map's value for a log whose last record this is
abbrev pub map_value : List ℕ → List ℕ
map_value record_id = codes "WARG-MAP-LEAF-V0:" ++ hash_text record_id
