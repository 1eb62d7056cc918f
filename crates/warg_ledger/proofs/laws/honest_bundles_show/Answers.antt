use Rattle.warg_ledger.proofs.ShowLaws.{ProverLaws, heads-shown, growth-shown}
use Rattle.warg_ledger.proofs.laws.honest_bundles_show.Goals as goal

pub returns-clause-heads : goal.returns-clause-heads
returns-clause-heads c accepts w checkpoint logs bundles registry is whole shown =
    let laws : ProverLaws = record { log = c.inclusion_bundles_prove.ensures; map = c.map_bundles_prove.ensures; growth = c.consistency_bundles_prove.ensures; values = c.leaves_are_bytes.ensures.values } in
    heads-shown laws accepts w checkpoint logs bundles registry is whole shown

pub returns-clause-growth : goal.returns-clause-growth
returns-clause-growth c w old new bytes is_old is_new le shown =
    let laws : ProverLaws = record { log = c.inclusion_bundles_prove.ensures; map = c.map_bundles_prove.ensures; growth = c.consistency_bundles_prove.ensures; values = c.leaves_are_bytes.ensures.values } in
    growth-shown laws w old new bytes is_old is_new le shown
