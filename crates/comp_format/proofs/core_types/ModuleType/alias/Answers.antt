use Rattle.std.proofs.Common.{ap, ◌∙◌}
use Rattle.comp_format.specs.CoreTypes.{ModuleDeclTree, with_module_decl}
use Rattle.comp_format.specs.Views.{module_tree}
use Rattle.comp_format.specs.ViewLaws.{module_pushed, module_decl_alias}
use Rattle.comp_format.proofs.core_types.ModuleType.alias.Goals as goal

pub returns-clause-added : goal.returns-clause-added
returns-clause-added c = module_pushed c.args.self.now c.push.new.self _ c.in_ok-push.ensures.items ∙ ap (λ (d : ModuleDeclTree). with_module_decl (module_tree c.args.self.now) d) (module_decl_alias c.args.count c.args.index)
