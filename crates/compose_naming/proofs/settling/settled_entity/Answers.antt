use Rattle.std.proofs.Common.{◌∙◌}
use Rattle.comp_entity.specs.Views.{entity_tree}
use Rattle.compose_naming.proofs.NameLaws.{called_so}
use Rattle.compose_naming.proofs.settling.settled_entity.Goals as goal

pub returns : goal.returns
returns c =
    c.in_ok-entity.ensures
    ∙ called_so c.in_ok-names.names _ (entity_tree c.args.import.now.entity) c.in_ok-names.ensures
