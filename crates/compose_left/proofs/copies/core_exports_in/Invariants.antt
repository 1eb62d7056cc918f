use Rattle.std.proofs.Common.{◌≡◌, take}
use Rattle.compose_left.proofs.copies.core_exports_in.Given as goal

abbrev pub invariant-loop-export : goal.invariant-loop-export
invariant-loop-export l = l.copies.items ≡ take l.export-index l.exports
