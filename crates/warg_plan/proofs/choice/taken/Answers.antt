use Rattle.std.proofs.Common.{ap}
use Rattle.std.specs.Prelude.{option_and_then}
use Rattle.warg_plan.specs.Keys.{unyanked}
use Rattle.warg_plan.proofs.choice.taken.Goals as goal

pub returns-in_err-release : goal.returns-in_err-release
returns-in_err-release c = rw c.from_residual.ensures (rw (c.in_err-release.was) at (ap (option_and_then unyanked) c.greatest.ensures))

pub returns-in_err-content : goal.returns-in_err-content
returns-in_err-content c = rw c.from_residual-in_err-content.ensures (rw (c.in_ok-release.was, c.in_err-content.was) at (ap (option_and_then unyanked) c.greatest.ensures))

pub returns : goal.returns
returns c = rw (c.in_ok-release.was, c.in_ok-content.was) at (ap (option_and_then unyanked) c.greatest.ensures)
