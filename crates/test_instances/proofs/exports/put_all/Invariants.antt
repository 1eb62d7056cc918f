use Rattle.comp_declare.specs.Scopes.{IsScope}
use Rattle.test_instances.proofs.exports.put_all.Given as goal

abbrev pub invariant-loop-word : goal.invariant-loop-word
invariant-loop-word l = IsScope l.table l.scope
