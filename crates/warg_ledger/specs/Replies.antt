-- What an honest registry shows of its log and of its map.
use Rattle.std.specs.Prelude.{◌≡◌, ℕ, List, map}
use Rattle.std.specs.List.{AllByRecursion}
use Rattle.warg_proof.specs.LogProofs.{LogProofs, log_text}
use Rattle.warg_proof.specs.MapProofs.{MapPath, map_text}
use Rattle.warg_prover.specs.Asked.{IsInclusionBundle, IsConsistencyBundle}
use Rattle.warg_prover.specs.Maps.{IsMapBundleOf}
use Rattle.warg_exchange.specs.declared.proof.InclusionResponse.{InclusionResponse}
use Rattle.warg_hash.specs.Hash.{operator_log_id, package_log_id}
use Rattle.warg_page.specs.Logs.{Logs, heads_of, indices_of}
use Rattle.warg_ledger.specs.Registry.{Registry, log_below, entry_texts, heads}

-- the logs are the registry's below a length, whole
pub record AreWhole (w : Registry) (n : ℕ) (logs : Logs) : Type 0 where
  pub operator : logs.operator ≡ log_below w n operator_log_id
  pub packages : AllByRecursion (λ p. p.1 ≡ log_below w n (package_log_id p.0)) logs.packages

-- the bundles hold just the proofs for the last records of these logs, with the hashes that they need
pub record ShowHeads (w : Registry) (n : ℕ) (logs : Logs) (bundles : InclusionResponse) : Type 0 where
  pub log : LogProofs
  pub log_bytes : bundles.log ≡ log_text log
  pub in_log : IsInclusionBundle log (entry_texts w n) (indices_of logs)
  pub paths : List MapPath
  pub map_bytes : bundles.map ≡ map_text paths
  pub in_map : IsMapBundleOf paths (heads w n) (map (λ h. h.0) (heads_of logs))

-- the bundle holds just the proof that the log of a length continues that of an older one, with the hashes that it
-- needs
pub record ShowsGrowth (w : Registry) (old new : ℕ) (bytes : List ℕ) : Type 0 where
  pub log : LogProofs
  pub log_bytes : bytes ≡ log_text log
  pub grows : IsConsistencyBundle log (entry_texts w new) old
