use Rattle.warg_ledger.proofs.OpenLaws.{TurnLaws}
use Rattle.warg_ledger.proofs.ProvedLaws.{ProofLaws, whole-proved}
use Rattle.warg_ledger.proofs.ShowLaws.{ProverLaws}
use Rattle.warg_ledger.proofs.TakenLaws.{Laws}
use Rattle.warg_ledger.proofs.laws.honest_updates_prove.Goals as goal

pub returns : goal.returns
returns c accepts w a start xs registry asked honest over =
    let laws : Laws = record { one = c.growth_is_taken.ensures.one; taken = c.growth_is_taken.ensures.never_refused; front = c.fronts_are_lawful.ensures.front } in
    let turn = c.exchanges_come_in_turn.ensures in
    let turns : TurnLaws = record { first = turn.checkpoint; more = turn.page } in
    let proofs : ProofLaws = record { inclusion = turn.inclusion; consistency = turn.consistency } in
    let prover : ProverLaws = record { log = c.inclusion_bundles_prove.ensures; map = c.map_bundles_prove.ensures; growth = c.consistency_bundles_prove.ensures; values = c.leaves_are_bytes.ensures.values } in
    whole-proved laws turns prover proofs accepts w a start registry xs asked honest over
