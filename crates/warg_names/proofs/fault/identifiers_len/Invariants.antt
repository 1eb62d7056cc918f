use Rattle.std.proofs.Common.{◌≤◌}
use Rattle.warg_names.proofs.fault.identifiers_len.Given as goal

abbrev pub invariant-loop-i : goal.invariant-loop-i
invariant-loop-i l = l.taken ≤ l.i
