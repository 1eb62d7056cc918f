use Rattle.std.proofs.Common.{true}
use Rattle.comp_scope.specs.Spaces.{nothing_known}
use Rattle.uses_components.proofs.declarations.one_resource.Goals as goal

pub import-requires : goal.import-requires
import-requires c = (nothing_known true, c.new-scope.ensures c.args.table.now)
