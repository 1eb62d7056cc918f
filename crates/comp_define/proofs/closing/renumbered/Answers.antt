use Rattle.std.proofs.Common.{◌∙◌, ap}
use Rattle.comp_entity.specs.Names.{changing}
use Rattle.comp_scope.specs.Closing.{renumbered}
use Rattle.comp_table.specs.Changes.{tree_by}
use Rattle.comp_table.specs.StandLaws.{number_of_same}
use Rattle.comp_define.proofs.ClosingLaws.{side_renamed}
use Rattle.comp_define.proofs.closing.renumbered.Goals as goal

pub returns-clause-number : goal.returns-clause-number
returns-clause-number c = λ es stands.
    let change = changing (renumbered c.args.order.now.resources.keys) (renumbered c.args.order.now.places.keys) in
    number_of_same c.renamed.result c.renamed.new.table _ _ (ap (tree_by change 0) stands.tree_is ∙ side_renamed change es (c.changed_entities_have_changed_trees.ensures change 0)) c.renamed.ensures.number
