use Rattle.std.proofs.Common.{take}
use Rattle.std.specs.List.{All}
use Rattle.compose_writing.specs.Conditions.{KeepsCore}
use Rattle.test_types.proofs.form.keep_core_imports.Given as goal

abbrev pub invariant-loop-import : goal.invariant-loop-import
invariant-loop-import l = All (λ i. KeepsCore i.2) (take l.import-index l.imports)
