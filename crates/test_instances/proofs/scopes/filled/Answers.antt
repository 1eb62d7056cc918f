use Rattle.std.proofs.Common.{true}
use Rattle.comp_scope.specs.Spaces.{no_spaces}
use Rattle.test_instances.proofs.scopes.filled.Goals as goal

pub loop-word-init : goal.loop-word-init
loop-word-init c = (no_spaces true, c.new-space.ensures c.args.table.now)
