-- The hashes of a registry's log and of its map.
use Rattle.std.specs.Prelude.{◌≡◌, ℕ, List, map, take, Option, option_map, slice_get}
use Rattle.sha2.specs.Sha256.{sha256}
use Rattle.warg_record.specs.Envelope.{Signed}
use Rattle.warg_proof.specs.declared.leaf.LogLeaf.{LogLeaf}
use Rattle.warg_prover.specs.Asked.{AreHashesOf}
use Rattle.warg_prover.specs.Maps.{map_of}
use Rattle.warg_ledger.specs.Registry.{Registry, entry_texts, heads}
use Rattle.warg_model.specs.declared.hashes.RegistryHashes.{RegistryHashes}

-- a record as an entry of the registry's log
abbrev pub leaf_of : List ℕ × Signed → LogLeaf
leaf_of e = record { log_id = e.0; record_id = sha256 e.1.contents }

-- the id of the log of the leaf at a place
abbrev pub log_at : List LogLeaf → ℕ → Option (List ℕ)
log_at leaves index = option_map (λ (l : LogLeaf). l.log_id) (slice_get leaves index)

-- the hashes are those of a registry's first records: of its log's entries, and of its map
pub record AreHashesBelow (w : Registry) (n : ℕ) (h : RegistryHashes) : Type 0 where
  pub leaves : h.leaves.items ≡ map leaf_of (take n w.entries)
  pub log : AreHashesOf (entry_texts w n) h.log
  pub map : map_of h.map ≡ heads w n
