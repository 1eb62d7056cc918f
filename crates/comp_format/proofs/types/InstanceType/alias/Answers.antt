use Rattle.std.proofs.Common.{ap, ◌∙◌}
use Rattle.comp_format.specs.Definitions.{DeclTree, with_decl}
use Rattle.comp_format.specs.Views.{instance_type_tree}
use Rattle.comp_format.specs.ViewLaws.{instance_pushed, decl_alias}
use Rattle.comp_format.proofs.types.InstanceType.alias.Goals as goal

pub returns-clause-added : goal.returns-clause-added
returns-clause-added c = instance_pushed c.args.self.now c.push.new.self _ c.in_ok-push.ensures.items ∙ ap (λ (d : DeclTree). with_decl (instance_type_tree c.args.self.now) d) (decl_alias c.args.alias)
