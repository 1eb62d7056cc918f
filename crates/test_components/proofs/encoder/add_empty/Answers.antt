use Rattle.std.proofs.Common.{[], refl}
use Rattle.comp_format.specs.Sections.{none}
use Rattle.test_components.proofs.encoder.add_empty.Goals as goal

-- a header alone is a component without sections
pub component_raw-requires : goal.component_raw-requires
component_raw-requires c = ([], (none, refl, ([], refl, refl)))
