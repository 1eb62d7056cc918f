use Rattle.std.proofs.Common.{◌≡◌, ℕ, ◌<◌, ◌==◌, take, map}
use Rattle.std.specs.List.{All, list_any}
use Rattle.warg_hash.specs.Hash.{IsDigest}
use Rattle.warg_proof.specs.MapTree.{has_bit}
use Rattle.warg_prover.proofs.map_hashes.path_with.Given as goal

abbrev pub invariant-loop-depth : goal.invariant-loop-depth
invariant-loop-depth l = record {
  marks : (d : ℕ) → d < 256 → has_bit l.given d ≡ list_any (λ s. s.0 == d) (take l.depth-index l.way);
  siblings : l.siblings.items ≡ map (λ s. s.1) (take l.depth-index l.way);
  formed : IsDigest l.given;
  digests : All IsDigest l.siblings.items;
}
