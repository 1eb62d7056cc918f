-- Types of core modules that are written.
use Rattle.std.specs.Prelude.{◌≤◌}
use Rattle.comp_format.specs.CoreTypes.{module_count}
use Rattle.comp_format.specs.Views.{module_tree}
use Rattle.compose_writing.specs.WriteModules.{ModuleScope}
use Rattle.compose_types.specs.declared.modules.Module.{Module}

abbrev pub module_scope : Module → ModuleScope
module_scope m = record { decls = module_tree m.ty; types = m.types }

-- no more core types are numbered than there are declarations
abbrev pub IsCounted : ModuleScope → Type 0
IsCounted m = m.types ≤ module_count m.decls
