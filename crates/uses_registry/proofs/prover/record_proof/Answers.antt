use Rattle.std.proofs.Common.{[], ◌∷◌, refl, sym, subst}
use Rattle.warg_proof.specs.MapProofs.{ProvesValue}
use Rattle.warg_prover.specs.Maps.{map_of}
use Rattle.uses_registry.proofs.prover.record_proof.Goals as goal

pub returns : goal.returns
returns c =
    let log = c.args.log_id.now in
    let found = c.in_ok-bytes.ensures.bundle in (
      found.0,
      found.1,
      λ value there. subst (ProvesValue found.0 0 log value) (sym c.root-root.ensures.value)
          (c.map_bundles_prove.ensures found.0 (map_of c.args.map.now) (log ∷ []) 0 log value found.2 c.root-root.ensures.formed refl there),
    )
