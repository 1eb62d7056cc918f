use Rattle.std.proofs.Common.{ap, ◌∙◌}
use Rattle.comp_format.specs.CoreTypes as core
use Rattle.comp_format.specs.CoreTypes.{ModuleDeclTree, with_module_decl}
use Rattle.comp_format.specs.Views.{module_tree}
use Rattle.comp_format.specs.ViewLaws.{module_pushed, module_decl_export}
use Rattle.comp_format.proofs.core_types.ModuleType.export.Goals as goal

pub returns-clause-added : goal.returns-clause-added
returns-clause-added c = module_pushed c.args.self.now c.push.new.self _ c.in_ok-push.ensures.items ∙ ap (λ (d : ModuleDeclTree). with_module_decl (module_tree c.args.self.now) d) (module_decl_export c.in_ok-name.name c.args.desc ∙ ap (λ name. core.Export name c.args.desc) c.in_ok-name.ensures.value)
