use Rattle.std.proofs.Common.{◌≡◌, take, map}
use Rattle.std.specs.List.{All}
use Rattle.std.specs.Prelude.{IsSome}
use Rattle.warg_proof.specs.MapProofs.{IsMapPath, path_of, siblings, log_key}
use Rattle.warg_proof.specs.MapTree.{value_at}
use Rattle.warg_proof.specs.TrueProofs.{true_siblings}
use Rattle.warg_prover.specs.Maps.{map_of}
use Rattle.warg_prover.proofs.map_hashes.MapHashes.paths.Given as goal

abbrev pub invariant-loop-log_id : goal.invariant-loop-log_id
invariant-loop-log_id l = record {
  formed : All (λ path. IsMapPath (path_of path.given path.siblings.items)) l.paths.items;
  truly : map (λ path. siblings (path_of path.given path.siblings.items)) l.paths.items ≡ map (λ log. true_siblings (map_of l.self) (log_key log)) (take l.log_id-index l.logs);
  there : All (λ log. IsSome (value_at (map_of l.self) (log_key log))) (take l.log_id-index l.logs);
}
