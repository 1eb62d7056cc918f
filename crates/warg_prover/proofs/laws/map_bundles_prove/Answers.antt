use Rattle.warg_proof.specs.MapProofs.{IsMapPath}
use Rattle.warg_prover.proofs.MapBundles.{path_at, each_at}
use Rattle.warg_prover.proofs.laws.map_bundles_prove.Goals as goal

pub returns : goal.returns
returns c = λ paths m logs at log value is im asked there.
    let found = path_at m paths logs at log is.truly asked in
    c.listed_value.ensures paths at found.0 m log value found.1 (each_at IsMapPath paths at found.0 is.bundle.each found.1) found.2 im there
