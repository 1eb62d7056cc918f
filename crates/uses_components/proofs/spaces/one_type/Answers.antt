use Rattle.std.proofs.Common.{true}
use Rattle.comp_scope.specs.Spaces.{no_spaces}
use Rattle.uses_components.proofs.spaces.one_type.Goals as goal

pub add_value_type-requires : goal.add_value_type-requires
add_value_type-requires c = (no_spaces true, c.new-space.ensures c.args.table.now)
