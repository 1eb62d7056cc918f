use Rattle.std.proofs.Common.{◌∙◌, inr, sym}
use Rattle.warg_program.proofs.StopLaws.{never_zero, status_short}
use Rattle.warg_program.proofs.program.run.Goals as goal

pub returns-in-Err-clause-complete : goal.returns-in-Err-clause-complete
returns-in-Err-clause-complete g c = λ able calm. inr (c.status-status.ensures ∙ status_short c.in-Err.stop (c.in-Err.ensures.complete able calm))

pub returns-in-Err-clause-done : goal.returns-in-Err-clause-done
returns-in-Err-clause-done g c = λ zero. never_zero c.in-Err.stop (sym c.status-status.ensures ∙ zero)
