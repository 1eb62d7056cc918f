use Rattle.std.proofs.Common.{◌∷◌, [], take, refl}
use Rattle.uses_registry.proofs.prover.entry_proof.Goals as goal

pub returns : goal.returns
returns c =
    let made = c.in_ok-inclusion_bundle.ensures.bundle in (
      made.0,
      made.1,
      λ entries entry are there. c.inclusion_bundles_prove.ensures made.0 (take c.args.count entries) (c.args.index ∷ []) 0 c.args.index entry (made.2 entries are) refl there,
    )
