use Rattle.std.proofs.Common.{◌≡◌, None, map, take}
use Rattle.warg_compose.specs.Open.{first_open}
use Rattle.warg_plan.specs.View.{entry_view}
use Rattle.warg_compose.proofs.open.first_open.Given as goal

abbrev pub invariant-loop-entry : goal.invariant-loop-entry
invariant-loop-entry l = first_open (map entry_view (take l.entry-index l.entries)) ≡ None
