use Rattle.std.proofs.Common.{ap, ◌∙◌}
use Rattle.comp_format.specs.Definitions as tree
use Rattle.comp_format.specs.Definitions.{DeclTree, with_decl}
use Rattle.comp_format.specs.Views.{instance_type_tree}
use Rattle.comp_format.specs.ViewLaws.{instance_pushed, decl_export}
use Rattle.comp_format.proofs.types.InstanceType.export.Goals as goal

pub returns-clause-added : goal.returns-clause-added
returns-clause-added c = instance_pushed c.args.self.now c.push.new.self _ c.in_ok-push.ensures.items ∙ ap (λ (d : DeclTree). with_decl (instance_type_tree c.args.self.now) d) (decl_export c.in_ok-name.name c.args.ty ∙ ap (λ name. tree.Export name c.args.ty) c.in_ok-name.ensures.value)
