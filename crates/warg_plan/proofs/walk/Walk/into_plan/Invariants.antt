use Rattle.std.proofs.Common.{◌≡◌, ◌++◌, map}
use Rattle.warg_plan.specs.View.{entry_view}
use Rattle.warg_plan.specs.Found.{found_view}
use Rattle.warg_plan.proofs.walk.Walk.into_plan.Given as goal

abbrev pub invariant-loop-key : goal.invariant-loop-key
invariant-loop-key l = map entry_view l.entries.items ++ map found_view l.key-iterator ≡ map found_view l.fn.self.entries.entries
