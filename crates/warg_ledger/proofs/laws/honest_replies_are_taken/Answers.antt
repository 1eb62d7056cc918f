use Rattle.warg_update.specs.Standing.{hints_of}
use Rattle.warg_ledger.proofs.HonestLaws.{UpdateLaws, reply-taken}
use Rattle.warg_ledger.proofs.OpenLaws.{TurnLaws}
use Rattle.warg_ledger.proofs.ShowLaws.{ProverLaws}
use Rattle.warg_ledger.proofs.TakenLaws.{Laws}
use Rattle.warg_ledger.proofs.laws.honest_replies_are_taken.Goals as goal

pub returns : goal.returns
returns c accepts w a start xs step request said reply e registry honest next stands asks bad =
    let laws : Laws = record { one = c.growth_is_taken.ensures.one; taken = c.growth_is_taken.ensures.never_refused; front = c.fronts_are_lawful.ensures.front } in
    let came = c.refusals_are_of_what_came.ensures in
    let turns : TurnLaws = record { first = c.exchanges_come_in_turn.ensures.checkpoint; more = c.exchanges_come_in_turn.ensures.page } in
    let updates : UpdateLaws = record {
      turns = turns;
      checkpoint = came.checkpoint;
      page = came.page;
      signature = came.signature;
      inclusion = came.inclusion;
      consistency = came.consistency;
    } in
    let prover : ProverLaws = record { log = c.inclusion_bundles_prove.ensures; map = c.map_bundles_prove.ensures; growth = c.consistency_bundles_prove.ensures; values = c.leaves_are_bytes.ensures.values } in
    reply-taken laws updates prover e accepts w (hints_of step) said a start xs reply registry honest next (came.behind accepts a start xs step request said reply e stands asks bad)
