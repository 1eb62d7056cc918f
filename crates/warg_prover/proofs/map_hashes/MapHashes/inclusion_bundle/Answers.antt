use Rattle.std.proofs.Common.{◌<◌, ◌^◌, List, length, map, sym, subst, arith}
use Rattle.std.specs.List.{All}
use Rattle.warg_proof.specs.declared.map_bundle.SiblingPath.{SiblingPath}
use Rattle.warg_proof.specs.MapProofs.{IsMapPath, siblings, log_key}
use Rattle.warg_proof.specs.TrueProofs.{true_siblings}
use Rattle.std.specs.Prelude.{◌≡◌}
use Rattle.warg_prover.specs.Maps.{map_of}
use Rattle.warg_prover.proofs.MapBundles.{seen, bundled}
use Rattle.warg_prover.proofs.map_hashes.MapHashes.inclusion_bundle.Goals as goal

pub returns-clause-bundle : goal.returns-clause-bundle
returns-clause-bundle c =
    let m = map_of c.args.self.now in
    let logs = c.args.logs.now in
    let few : length logs < 2 ^ 32 = omega arith in
    let formed = subst (λ (ps : List SiblingPath). All (λ path. IsMapPath (seen path)) ps) (sym c.as_slice.ensures.value) c.in_ok-paths.ensures.formed in
    let truly = subst (λ (ps : List SiblingPath). map (λ path. siblings (seen path)) ps ≡ map (λ log. true_siblings m (log_key log)) logs) (sym c.as_slice.ensures.value) c.in_ok-paths.ensures.truly in
    (map seen c.as_slice.result.now, c.in_ok-write.ensures, bundled m c.as_slice.result.now logs few formed truly)
