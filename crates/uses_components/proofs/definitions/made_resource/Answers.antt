use Rattle.std.specs.Prelude.{true}
use Rattle.comp_scope.specs.Spaces.{no_spaces}
use Rattle.uses_components.proofs.definitions.made_resource.Goals as goal

pub add_type-requires-clause-own : goal.add_type-requires-clause-own
add_type-requires-clause-own c = (no_spaces true, c.new-space.ensures c.args.table.now)
