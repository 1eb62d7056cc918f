-- A registry's map, as the last records of its logs say it, and the bundles of its paths.
use Rattle.std.specs.Prelude.{◌≡◌, ℕ, List, map}
use Rattle.warg_proof.specs.declared.leaf.LogLeaf.{LogLeaf}
use Rattle.warg_proof.specs.Leaves.{map_value}
use Rattle.warg_proof.specs.MapTree.{Entries}
use Rattle.warg_proof.specs.MapProofs.{MapPath, IsMapBundle, siblings, log_key}
use Rattle.warg_proof.specs.TrueProofs.{true_siblings}

-- the map in which each log has its record: of a log that stands twice the first one counts
abbrev pub map_of : List LogLeaf → Entries
map_of leaves = map (λ (leaf : LogLeaf). (log_key leaf.log_id, map_value leaf.record_id)) leaves

-- a bundle has a path for each of these logs in turn, and no other: that of the log's key in the map
pub record IsMapBundleOf (paths : List MapPath) (m : Entries) (logs : List (List ℕ)) : Type 0 where
  pub bundle : IsMapBundle paths
  pub truly : map siblings paths ≡ map (λ log. true_siblings m (log_key log)) logs
