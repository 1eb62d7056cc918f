use Rattle.comp_space.specs.SpaceViews.{IsSpace}
use Rattle.test_instances.proofs.scopes.filled.Given as goal

abbrev pub invariant-loop-word : goal.invariant-loop-word
invariant-loop-word l = IsSpace l.table l.space
