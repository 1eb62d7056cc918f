use Rattle.comp_declare.specs.Scopes.{IsScope}
use Rattle.test_scopes.proofs.reading.scope_of.Given as goal

abbrev pub invariant-loop-item : goal.invariant-loop-item
invariant-loop-item l = IsScope l.table l.scope
