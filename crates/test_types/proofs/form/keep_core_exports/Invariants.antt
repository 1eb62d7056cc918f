use Rattle.std.proofs.Common.{take}
use Rattle.std.specs.List.{All}
use Rattle.compose_writing.specs.Conditions.{KeepsCore}
use Rattle.test_types.proofs.form.keep_core_exports.Given as goal

abbrev pub invariant-loop-export : goal.invariant-loop-export
invariant-loop-export l = All (λ e. KeepsCore e.1) (take l.export-index l.exports)
