use Rattle.std.proofs.Common.{refl}
use Rattle.warg_program.proofs.AbleLaws.{able_short}
use Rattle.warg_program.proofs.StopLaws.{holds_stopped, rose_later}
use Rattle.warg_program.proofs.program.outcome.Goals as goal

pub returns-in-Err-clause-holds : goal.returns-in-Err-clause-holds
returns-in-Err-clause-holds g c = holds_stopped c.in-Err.stop _ _ _ _ refl c.in-Err.ensures.stopped

pub returns-in-Err-clause-complete : goal.returns-in-Err-clause-complete
returns-in-Err-clause-complete g c = λ able calm.
    able_short c.one_shape.ensures c.graphs_that_can_be_encoded_are_refused_for_their_numbers.ensures c.one_document.ensures c.in-Err.stop _ _ _ able (record { files = calm.files; output = λ rose. calm.output (rose_later _ _ _ c.refuse.ensures.never_falls rose) }) c.in-Err.ensures.stopped
